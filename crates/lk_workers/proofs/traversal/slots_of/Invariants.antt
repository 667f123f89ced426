use Rattle.std.proofs.Common.{◌≡◌, length}
use Rattle.lk_workers.proofs.traversal.slots_of.Given as goal

-- a slot for each group so far
abbrev pub invariant-loop : goal.invariant-loop
invariant-loop g l = length l.slots.items ≡ l.index
