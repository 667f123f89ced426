use Rattle.std.proofs.Common.{◌≡◌, ◌-◌, ◌≤◌, ◌++◌, length}
use Rattle.lk_thunks.specs.Blocks.{blocks_from, thunk_blocks}
use Rattle.lk_thunks.proofs.blocks.thunk_blocks.Given as goal

-- the blocks so far, followed by those that are left, are all; there are no more than objects so far
abbrev pub invariant-loop-first : goal.invariant-loop-first
invariant-loop-first l =
    (l.first ≤ length l.objects) × (length l.blocks.items ≤ l.first)
    × (l.blocks.items ++ blocks_from l.range l.objects l.first (length l.objects - length l.blocks.items) ≡ thunk_blocks l.range l.objects)

abbrev pub decreases-loop-first : goal.decreases-loop-first
decreases-loop-first l = length l.objects - l.first
