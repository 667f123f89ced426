use Rattle.std.proofs.Common.{◌≡◌, ◌||◌, ℕ, Bool, length, take}
use Rattle.std.specs.List.{enumerate_from, list_any}
use Rattle.lk_thunks.specs.Noting.{AreNoted, planning_of}
use Rattle.lk_thunks.specs.ThunkSets.{is_needed_for}
use Rattle.lk_thunks.proofs.sets.add_symbols.Given as goal

-- what the symbols so far need is taken
abbrev pub invariant-loop-index : goal.invariant-loop-index
invariant-loop-index l =
    (length l.stamps ≡ length l.initial.stamps)
    × ((test : ℕ → Bool) → AreNoted l.user.stamp test l.initial.stamps l.initial.set.items
    → AreNoted l.user.stamp (λ d. test d || list_any (is_needed_for (planning_of l.user.by.now) l.user.object d) (take l.index (enumerate_from l.first l.symbols))) l.stamps l.set.items)
