use Rattle.std.proofs.Common.{List, [], ◌∷◌, length, arith, ap, sym, subst, length-append, ◌∙◌}
use Rattle.lk_workers.specs.Closings.{AreMarksOf}
use Rattle.lk_workers.specs.States.{Ranged}
use Rattle.lk_workers.proofs.Handing.{two_more}
use Rattle.lk_workers.proofs.traversal.gather.Goals as goal

pub loop-state-preserved : goal.loop-state-preserved
loop-state-preserved g c =
    let before = c.loop-state.opened.marks in
    let done = c.open-done.result in
    let more = two_more before done.0 done.1 c.loop-state.room.items c.open-done.new.room.items c.loop-state.invariant.1 c.open-done.ensures.done in
    let count = ap (λ (all : List Ranged). length all) c.open-done.ensures.marks ∙ length-append before (done.0 ∷ done.1 ∷ []) in
    (c.open-done.ensures.reached, subst (λ (all : List Ranged). AreMarksOf all c.open-done.new.room.items) (sym c.open-done.ensures.marks) more, omega (arith, count, c.loop-state.invariant.2, c.in-Some.ensures.steps))
