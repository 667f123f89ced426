use Rattle.std.proofs.Common.{◌≡◌, length, take}
use Rattle.std.specs.List.{list_any}
use Rattle.lk_thunks.specs.Noting.{AreNoted, planning_of}
use Rattle.lk_thunks.specs.ThunkSets.{needs_thunk}
use Rattle.lk_thunks.proofs.sets.thunk_set.Given as goal

-- what the objects so far need is taken
abbrev pub invariant-loop-object : goal.invariant-loop-object
invariant-loop-object l =
    (length l.stamps ≡ length l.initial.stamps)
    × AreNoted l.stamp (λ d. list_any (needs_thunk (planning_of l.by) d) (take l.object-index l.objects)) l.stamps l.symbols.items
