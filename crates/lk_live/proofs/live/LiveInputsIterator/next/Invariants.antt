use Rattle.std.proofs.Common.{◌≡◌, length}
use Rattle.lk_live.specs.Reach.{marked}
use Rattle.lk_live.proofs.live.LiveInputsIterator.next.Given as goal

-- only sections without a mark were passed over
abbrev pub invariant-loop-mark : goal.invariant-loop-mark
invariant-loop-mark l = marked l.self-inside.marks.now l.self-inside.inputs ≡ l.fn.self

abbrev pub decreases-loop-mark : goal.decreases-loop-mark
decreases-loop-mark l = length l.self-inside.marks.now
