use Rattle.std.proofs.Common.{◌≡◌, length}
use Rattle.lk_sizes.specs.Kept.{kept_of}
use Rattle.lk_sizes.proofs.kept.KeptInputsIterator.next.Given as goal

-- only sections that aren't kept were passed over
abbrev pub invariant-loop-mark : goal.invariant-loop-mark
invariant-loop-mark l = kept_of l.self-inside.marks.now l.self-inside.inputs ≡ l.fn.self

abbrev pub decreases-loop-mark : goal.decreases-loop-mark
decreases-loop-mark l = length l.self-inside.marks.now
