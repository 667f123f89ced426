use Rattle.std.proofs.Common.{◌≡◌}
use Rattle.lk_reach_tests.proofs.traversal.workers.closed_after.Given as goal

-- the pass stays one of the table
abbrev pub invariant-loop : goal.invariant-loop
invariant-loop g l = l.pass.table ≡ l.traversal.table

-- the pass stays one of the table
abbrev pub invariant-loop-2 : goal.invariant-loop-2
invariant-loop-2 g l = l.pass.table ≡ l.traversal.table
