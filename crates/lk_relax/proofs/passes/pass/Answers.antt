use Rattle.std.proofs.Common.{ap, refl, sym, subst, ◌∙◌}
use Rattle.std.specs.Prelude.{unwrap_or}
use Rattle.lk_sizes.specs.Owners.{own_sizes}
use Rattle.lk_sizes.specs.OwnersRecord.{OwnersRecord}
use Rattle.lk_sizes.specs.Sizing.{AreFilled}
use Rattle.lk_relax.specs.RelaxationWords.{stage_in}
use Rattle.lk_relax.specs.Relaxed.{for_link}
use Rattle.lk_relax.specs.Stages.{Relaxing, Stage, filling_after, shrink_pass}
use Rattle.lk_relax.proofs.Passing.{stage_filled, stage_lesser}
use Rattle.lk_relax.proofs.passes.pass.Goals as goal

pub resize_owners-requires-clause-filled : goal.resize_owners-requires-clause-filled
resize_owners-requires-clause-filled c =
    let filling = filling_after (for_link c.args.link.now c.args.live.now c.requires.stage.0) c.args.hand.deltas.items in
    let h = c.in_ok-shrunk.ensures c.requires.stage.0 c.requires.stage.1 in
    (filling, subst (AreFilled filling) (sym h.owners) c.requires.stage.1.filled)

pub resize_owners-requires-clause-lesser : goal.resize_owners-requires-clause-lesser
resize_owners-requires-clause-lesser c = λ k.
    let link = c.args.link.now in
    let is = c.requires.stage.1 in
    let by_link : Relaxing = for_link link c.args.live.now c.requires.stage.0 in
    let a : Stage = stage_in c.args.hand is in
    let h = c.in_ok-shrunk.ensures c.requires.stage.0 is in
    let owners = ap (λ (o : OwnersRecord). unwrap_or o.sizes (own_sizes link)) h.owners ∙ is.filled.sizes in
    stage_lesser c.sizes_fall_by_passes.ensures by_link a c.deref.result.now c.in_ok-shrunk.shrunk.sizes.items (unwrap_or c.shrink.new.hand.owners.sizes (own_sizes link)) (shrink_pass by_link a) k is.shrunk c.deref.ensures.value
    h.sizes refl owners

pub returns-in-Ok : goal.returns-in-Ok
returns-in-Ok c = λ by is.
    let link = c.args.link.now in
    let by_link : Relaxing = for_link link c.args.live.now by in
    let a : Stage = stage_in c.args.hand is in
    let h = c.in_ok-shrunk.ensures by is in
    let filling = filling_after by_link c.args.hand.deltas.items in
    record {
      deleted = h.deleted;
      scan = h.scan;
      fall = h.fall;
      filled = stage_filled by_link c.args.hand.deltas.items (shrink_pass by_link a) c.in-Ok.owners c.deref.result.now c.in_ok-shrunk.shrunk.sizes.items c.deref.ensures.value h.sizes
          (c.in-Ok.ensures filling (subst (AreFilled filling) (sym h.owners) is.filled));
      placed = h.placed;
    }
