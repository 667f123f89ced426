use Rattle.std.proofs.Common.{◌≡◌, ◌++◌, drop, map}
use Rattle.std.specs.List.{enumerate_from}
use Rattle.lk_thunks.specs.Blocks.{objects_of}
use Rattle.lk_thunks.specs.Noting.{AreFresh, planning_of}
use Rattle.lk_thunks.specs.ThunkSets.{thunk_set}
use Rattle.lk_thunks.proofs.sets.thunk_sets.Given as goal

-- the sets so far, followed by those of the blocks that are left, are all; stamps are those of blocks so far
abbrev pub invariant-loop-number : goal.invariant-loop-number
invariant-loop-number l =
    AreFresh (planning_of l.by) l.number l.stamps.items
    × (map (λ b. b.symbols) l.sets.items ++ map (λ q. thunk_set (planning_of l.by) q.0 (objects_of l.objects q.1)) (enumerate_from l.number (drop l.number l.blocks))
    ≡ map (λ q. thunk_set (planning_of l.by) q.0 (objects_of l.objects q.1)) (enumerate_from 0 l.blocks))
