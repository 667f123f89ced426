use Rattle.std.proofs.Common.{Err, ap, sym, subst, ◌∙◌}
use Rattle.lk_place.specs.declared.error.PlaceError.{PlaceError}
use Rattle.lk_sizes.specs.Owners.{Filling, content_of, plain_filling, with_thunks}
use Rattle.lk_deltas.specs.LinkDeletions.{sizes_after}
use Rattle.lk_relax.specs.Relaxed.{AreRelaxed, GivesRelaxed, IsRelaxedLink, relaxing}
use Rattle.lk_relax.specs.Stages.{Relaxing}
use Rattle.lk_relax.proofs.Ending.{relaxed_exit, same_refusal}
use Rattle.lk_relax.proofs.relaxation.perform_iterative_relaxation.Goals as goal

pub relax_owners-requires-clause-first : goal.relax_owners-requires-clause-first
relax_owners-requires-clause-first g c =
    let filling : Filling = with_thunks (plain_filling (content_of c.args.by.now.link.now (g.P.Platform.table_sizes c.args.by.now.platform.now) c.args.by.now.live.now c.args.merged_lens.now)) c.args.thunk_owners.now in
    (filling, c.in_ok-owners.ensures, c.requires.first)

pub returns-in_err-parts : goal.returns-in_err-parts
returns-in_err-parts g c =
    let filling : Filling = with_thunks (plain_filling (content_of c.args.by.now.link.now (g.P.Platform.table_sizes c.args.by.now.platform.now) c.args.by.now.live.now c.args.merged_lens.now)) c.args.thunk_owners.now in
    let by : Relaxing = relaxing (g.P.Platform.segment_start c.args.by.now.platform.now) c.args.by.now.headers filling in
    relaxed_exit by (IsRelaxedLink by) _ c.from_residual-in_err-parts.result c.from_residual-in_err-parts.ensures.1
    (λ e same. subst (λ (x : PlaceError). GivesRelaxed by (IsRelaxedLink by) (Err x)) (sym same)
    (same_refusal by (AreRelaxed by) (IsRelaxedLink by) c.in_err-parts.field-0.0 (c.in_err-parts.ensures filling c.in_ok-owners.ensures c.requires.first)))

pub returns : goal.returns
returns g c =
    let filling : Filling = with_thunks (plain_filling (content_of c.args.by.now.link.now (g.P.Platform.table_sizes c.args.by.now.platform.now) c.args.by.now.live.now c.args.merged_lens.now)) c.args.thunk_owners.now in
    let h = c.in_ok-parts.ensures filling c.in_ok-owners.ensures c.requires.first in
    record { last = h.last; ends = h.ends; sizes = c.in_ok-sizes.ensures ∙ ap (sizes_after c.args.by.now.link.now.groups) (c.deref.ensures.value ∙ h.ends.deletions) }
