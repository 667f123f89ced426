use Rattle.std.proofs.Common.{◌≡◌, length}
use Rattle.lk_merge.specs.Endings.{HaveTaken}
use Rattle.lk_merge.proofs.ending.gather.Given as goal

-- the buckets so far have ended
abbrev pub invariant-loop-number : goal.invariant-loop-number
invariant-loop-number g l = HaveTaken g.J.Brings.work l.all × (length l.all.states.items ≡ l.number)
