use Rattle.std.proofs.Common.{◌≡◌, ◌+◌, length}
use Rattle.std.specs.List.{All}
use Rattle.lk_flags.specs.Flags.{Pass}
use Rattle.lk_workers.specs.Traversals.{GoesOn}
use Rattle.lk_workers.proofs.workers.run_all.Given as goal

-- all passes are ones of the table, those for workers have a part each, and together they have the parts of the first
abbrev pub invariant-loop-index : goal.invariant-loop-index
invariant-loop-index g l =
    (l.pass.table ≡ l.traversal.table) × All (λ (p : Pass). (p.table ≡ l.traversal.table) × (p.parts ≡ 1)) l.passes.items
    × (length l.passes.items ≡ l.index) × (l.pass.parts + l.index ≡ l.fn.pass.parts) × (l.pass.sets ≡ l.fn.pass.sets)

-- the pass stays one of the table, and gets a part of each that is joined to it
abbrev pub invariant-loop-other : goal.invariant-loop-other
invariant-loop-other g l = (l.pass.table ≡ l.traversal.table) × (l.pass.parts + l.workers ≡ l.fn.pass.parts + length l.yielded) × GoesOn l.fn.pass.sets l.pass.sets
