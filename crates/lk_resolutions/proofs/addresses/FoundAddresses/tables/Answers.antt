use Rattle.std.proofs.Common.{◌≡◌, Bool, List, ℕ, sym, ap, ◌∙◌, subst, arith}
use Rattle.lk_live.specs.declared.live.Live.{Live}
use Rattle.lk_link.specs.TableSizes.{TableSizes}
use Rattle.lk_merge.specs.Addresses.{image_start}
use Rattle.lk_merge.specs.LinkInputs.{link_inputs}
use Rattle.lk_merge.proofs.SymbolPlaces.{outputs_count}
use Rattle.lk_deltas.specs.LinkDeletions.{Deletions}
use Rattle.lk_sizes.specs.Emitted.{told_marks}
use Rattle.lk_tables.specs.declared.header_info.HeaderInfo.{HeaderInfo}
use Rattle.lk_tables.specs.DynamicCounters.{AreNumbersAt}
use Rattle.lk_sizes.specs.Addresses.{common_addresses, section_addresses}
use Rattle.lk_sizes.specs.Owners.{Filling}
use Rattle.lk_sizes.specs.PartOwners.{EndsFit}
use Rattle.lk_resolutions.specs.Entries.{entry_setting}
use Rattle.lk_resolutions.specs.EntryWords.{TablesFit}
use Rattle.lk_resolutions.specs.Found.{AreFound}
use Rattle.lk_resolutions.specs.OutputContent.{in_layout, output_content}
use Rattle.lk_resolutions.specs.Resolutions.{images_at, merged_value}
use Rattle.lk_resolutions.specs.Starts.{starts_of}
use Rattle.lk_resolutions.specs.Tables.{AllStandInside, AreRising}
use Rattle.lk_resolutions.proofs.CommonsFound.{table_rises}
use Rattle.lk_resolutions.proofs.EntriesTaken.{tables_fit}
use Rattle.lk_resolutions.proofs.Imaging.{same_values}
use Rattle.lk_resolutions.proofs.Placing.{all_inside, ends_fit, resolutions_by, starts_count}
use Rattle.lk_resolutions.proofs.addresses.FoundAddresses.tables.Goals as goal

pub returns-clause-tables : goal.returns-clause-tables
returns-clause-tables g c =
    let sizes : TableSizes = g.P.Platform.table_sizes c.args._platform.now in
    let link = c.args.lent.now.link.now in
    let live : Live = c.args.lent.now.live.now in
    let filling : Filling = in_layout sizes link live c.requires.placed.0 in
    let deletions : Deletions = c.args.lent.now.deltas.now in
    let parts = c.args.lent.now.parts.now in
    let starts : List ℕ = c.args.self.now.starts.items in
    let found : AreFound filling parts c.args.self.now = c.requires.found filling c.requires.placed.1.filled in
    let count = starts_count link parts starts found.starts c.requires.each in
    let fit : EndsFit filling starts = ends_fit filling parts starts found.starts c.requires.fit c.requires.placed.1.takes in
    let read : c.as_slice.result.now ≡ section_addresses filling starts
    = c.as_slice.ensures.value ∙ found.sections ∙ ap (section_addresses filling) (sym found.starts) in
    let commons : c.as_slice-2.result.now ≡ common_addresses filling starts
    = c.as_slice-2.ensures.value ∙ found.commons ∙ ap (common_addresses filling) (sym found.starts) in
    record {
      belong = c.requires.belong;
      rising = subst AreRising (sym commons) (table_rises filling starts);
      inside = subst (λ (ns : List ℕ). AllStandInside link.groups deletions live.marks ns) (sym read)
          (all_inside filling deletions starts c.requires.placed.2 c.requires.good c.requires.live count fit);
      fit = subst (λ (ss : List ℕ). TablesFit (entry_setting sizes link live c.as_slice-3.result.now ss)) (sym c.as_slice-4.ensures.value)
          (tables_fit filling c.as_slice-3.result.now starts c.requires.good count fit);
    }

pub returns-clause-numbers : goal.returns-clause-numbers
returns-clause-numbers g c =
    let sizes : TableSizes = g.P.Platform.table_sizes c.args._platform.now in
    let link = c.args.lent.now.link.now in
    let live : Live = c.args.lent.now.live.now in
    let told : List Bool = told_marks (output_content sizes link live) in
    let at : AreNumbersAt link live told 0 c.args.lent.now.owners.now.numbers = c.requires.placed.1.filled.numbers in
    let marks : c.as_slice-3.result.now ≡ told = c.as_slice-3.ensures ∙ ap (λ (h : HeaderInfo). h.told) (c.header.ensures ∙ c.requires.placed.1.filled.header) in
    subst (λ (ms : List Bool). AreNumbersAt link live ms 0 c.args.lent.now.owners.now.numbers) (sym marks) at

pub returns-clause-resolutions : goal.returns-clause-resolutions
returns-clause-resolutions g c = λ by items h made.
    let link = c.args.lent.now.link.now in
    let filling : Filling = in_layout (g.P.Platform.table_sizes c.args._platform.now) link c.args.lent.now.live.now by in
    let wanted : List ℕ = starts_of c.args.lent.now.parts.now in
    let found : AreFound filling c.args.lent.now.parts.now c.args.self.now = c.requires.found by h in
    let merged : c.args.lent.now.merged.now ≡ (link_inputs link).outputs = c.requires.merged in
    let values : merged_value link (image_start c.args.self.now.buckets) ≡ merged_value link (images_at filling wanted)
    = same_values link (image_start c.args.self.now.buckets) (images_at filling wanted) c.requires.good (λ t below. found.images t (omega (arith, below, outputs_count link))) in
    resolutions_by filling c.args.lent.now.deltas.now c.args.lent.now.edges.now wanted c.as_slice-4.result.now c.as_slice.result.now c.args.self.now.buckets c.as_slice-2.result.now c.as_slice-3.result.now _
    (c.as_slice.ensures.value ∙ found.sections) (c.as_slice-2.ensures.value ∙ found.commons)
    (c.as_slice-3.ensures ∙ ap (λ (info : HeaderInfo). info.told) (c.header.ensures ∙ h.header)) (c.as_slice-4.ensures.value ∙ found.starts) values made
