use Rattle.std.proofs.Common.{◌≡◌, ◌||◌, ℕ, Bool, length, take}
use Rattle.lk_link.specs.Marks.{is_marked}
use Rattle.lk_thunks.specs.Noting.{AreNoted}
use Rattle.lk_thunks.proofs.sets.add_marked.Given as goal

-- the marked symbols so far are taken
abbrev pub invariant-loop-index : goal.invariant-loop-index
invariant-loop-index l =
    (length l.stamps ≡ length l.initial.stamps)
    × ((test : ℕ → Bool) → AreNoted l.stamp test l.initial.stamps l.initial.set.items
    → AreNoted l.stamp (λ d. test d || is_marked (take l.index l.marks) d) l.stamps l.set.items)
