use Rattle.std.proofs.Common.{◌≡◌}
use Rattle.lk_workers.specs.Traversals.{GoesOn}
use Rattle.lk_workers.proofs.traversal.Traversal.run_group.Given as goal

-- the pass stays one of the table, with its parts, and has still what it had set
abbrev pub invariant-loop : goal.invariant-loop
invariant-loop g l = (l.pass.table ≡ l.fn.pass.table) × (l.pass.parts ≡ l.fn.pass.parts) × GoesOn l.fn.pass.sets l.pass.sets
