use Rattle.std.proofs.Common.{◌≡◌}
use Rattle.lk_workers.proofs.workers.work.Given as goal

-- the pass stays one of the table, with its parts
abbrev pub invariant-loop : goal.invariant-loop
invariant-loop g l = (l.pass.table ≡ l.traversal.table) × (l.pass.parts ≡ l.fn.pass.parts)
