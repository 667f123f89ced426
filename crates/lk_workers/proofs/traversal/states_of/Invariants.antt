use Rattle.std.proofs.Common.{◌≡◌, length}
use Rattle.lk_workers.proofs.traversal.states_of.Given as goal

-- a state for each group so far
abbrev pub invariant-loop-files : goal.invariant-loop-files
invariant-loop-files g l = length l.states.items ≡ l.files-index
