use Rattle.std.proofs.Common.{◌≡◌}
use Rattle.lk_reach_tests.proofs.traversal.workers.run_groups.Given as goal

-- the pass stays one of the table
abbrev pub invariant-loop-group : goal.invariant-loop-group
invariant-loop-group g l = l.pass.table ≡ l.traversal.table
