use Rattle.std.proofs.Common.{length, sym, ap, subst, ◌∙◌}
use Rattle.lk_own_symbols.specs.Edges.{EndsBelow}
use Rattle.lk_place.specs.declared.segments.SegmentFileLayout.TheVariants.{FromSections}
use Rattle.lk_sizes.specs.Emitted.{active_segments, is_emitted}
use Rattle.lk_layout.specs.Machines.{platform_machine}
use Rattle.lk_layout.specs.Made.{Made, made_content}
use Rattle.lk_layout.specs.Spans.{made_sections}
use Rattle.lk_layout.specs.Stages.{made_spanned}
use Rattle.lk_layout.proofs.PlacedSites.{sections_are}
use Rattle.lk_compute.proofs.Redirecting.{edges_are}
use Rattle.lk_layout.proofs.Settings.{length-section_records}
use Rattle.lk_compute.proofs.job.JobFinds.edges.Goals as goal

pub edges_of-requires-clause-each : goal.edges_of-requires-clause-each
edges_of-requires-clause-each g c =
    ap length (c.as_slice-sections.ensures ∙ c.requires.spanned.placed.are.sections) ∙ length-section_records c.args.self.now.link.now.plan.sections c.args.spanned.now.placed.records.parts

pub edges_of-requires-clause-below : goal.edges_of-requires-clause-below
edges_of-requires-clause-below g c =
    let made : Made = made_spanned c.requires.spanned in
    let content = made_content made in
    subst (EndsBelow made.link.plan) (sym (c.as_slice.ensures ∙ c.requires.spanned.segments))
    (c.segments_end_below.ensures FromSections made.link (made_sections made) (is_emitted content) (active_segments content) c.requires.spanned.covered)

pub returns : goal.returns
returns g c = λ is.
    let machine = platform_machine (g.P.Platform.segment_start c.args.self.now.platform.now) (g.P.Platform.table_sizes c.args.self.now.platform.now) (g.A.Arch.config_of c.args.self.now.arch.now) in
    let made : Made = made_spanned is in
    edges_are made c.as_slice-sections.result.now c.as_slice.result.now c.in_ok-edges.edges c.in_ok-edges.ensures
    (c.as_slice-sections.ensures ∙ sections_are machine c.args.self.now.link.now c.args.spanned.now.placed is.placed) (c.as_slice.ensures ∙ is.segments)
