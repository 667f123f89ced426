use Rattle.std.proofs.Common.{◌≡◌, true, ap, sym, subst, ◌∙◌}
use Rattle.lk_live.specs.declared.live.Live.{Live}
use Rattle.lk_link.specs.declared.link.LinkInput.{LinkInput}
use Rattle.lk_deltas.specs.LinkDeletions.{Deletions}
use Rattle.lk_relax.specs.Positions.{section_positions, symbol_positions}
use Rattle.lk_relax.specs.Sites.{CanAllBeScanned, is_nothing_deleted, past_limit}
use Rattle.lk_layout.specs.Defined.{made_standing}
use Rattle.lk_layout.specs.Machines.{platform_machine}
use Rattle.lk_layout.specs.Made.{made_filling, relaxing_for}
use Rattle.lk_layout.specs.Stages.{made_placed}
use Rattle.lk_layout.proofs.PlacedSites.{past_told, standing_is}
use Rattle.lk_compute.proofs.job.JobFinds.check_deleted.Goals as goal

pub returns-then-is_nothing_deleted : goal.returns-then-is_nothing_deleted
returns-then-is_nothing_deleted g c is =
    let none : is_nothing_deleted c.as_slice-deltas.result.now ≡ true = cc in
    c.nothing_is_past.ensures (made_standing (made_placed is)) (ap is_nothing_deleted (sym (c.as_slice-deltas.ensures ∙ is.deltas)) ∙ none)

pub compute_input_section_positions-requires-clause-filled : goal.compute_input_section_positions-requires-clause-filled
compute_input_section_positions-requires-clause-filled g c = (made_filling (made_placed c.requires), c.requires.owners)

pub check_sites-requires-clause-scanned : goal.check_sites-requires-clause-scanned
check_sites-requires-clause-scanned g c =
    let machine = platform_machine (g.P.Platform.segment_start c.args.self.now.platform.now) (g.P.Platform.table_sizes c.args.self.now.platform.now) (g.A.Arch.config_of c.args.self.now.arch.now) in
    let link : LinkInput = c.args.self.now.link.now in
    let live : Live = c.args.placed.now.kept.live in
    let by = relaxing_for machine link live in
    let is = c.requires in
    let shrunk = c.relaxed_is_shrunk.ensures by is.stage is.kept.merged.checked.good is.relaxed in
    let deleted : c.as_slice-deltas.result.now ≡ is.stage.deletions = c.as_slice-deltas.ensures ∙ is.deltas in
    let Can : Deletions → Type 0 = λ ds. CanAllBeScanned link ds in
    subst Can (sym deleted) (c.shrunk_can_be_scanned.ensures by is.stage shrunk)

pub returns-in_err-check_sites : goal.returns-in_err-check_sites
returns-in_err-check_sites g c is =
    let machine = platform_machine (g.P.Platform.segment_start c.args.self.now.platform.now) (g.P.Platform.table_sizes c.args.self.now.platform.now) (g.A.Arch.config_of c.args.self.now.arch.now) in
    let link : LinkInput = c.args.self.now.link.now in
    let positions : c.in_ok-sections.sections.items ≡ section_positions (made_filling (made_placed is)) = c.in_ok-sections.ensures.sections (made_filling (made_placed is)) is.owners in
    past_told (made_placed is) _ c.in_err-check_sites.field-0.0 c.from_residual-in_err-check_sites.result
    (standing_is machine link c.args.placed.now is _ _ _ _ (c.deref.ensures.value ∙ positions)
    (c.in_ok-sections.ensures.symbols ∙ ap (symbol_positions link.groups c.as_slice-deltas.result.now) (sym c.deref.ensures.value)) c.as_slice-parts.ensures c.as_slice-deltas.ensures)
    c.in_err-check_sites.ensures
    c.from_residual-in_err-check_sites.ensures.1

pub returns : goal.returns
returns g c is =
    let machine = platform_machine (g.P.Platform.segment_start c.args.self.now.platform.now) (g.P.Platform.table_sizes c.args.self.now.platform.now) (g.A.Arch.config_of c.args.self.now.arch.now) in
    let link : LinkInput = c.args.self.now.link.now in
    let positions : c.in_ok-sections.sections.items ≡ section_positions (made_filling (made_placed is)) = c.in_ok-sections.ensures.sections (made_filling (made_placed is)) is.owners in
    let standing = standing_is machine link c.args.placed.now is _ _ _ _ (c.deref.ensures.value ∙ positions)
    (c.in_ok-sections.ensures.symbols ∙ ap (symbol_positions link.groups c.as_slice-deltas.result.now) (sym c.deref.ensures.value)) c.as_slice-parts.ensures c.as_slice-deltas.ensures in
    ap past_limit (sym standing) ∙ c.in_ok-check_sites.ensures
