use Rattle.std.proofs.Common.{◌≡◌, ◌⊎◌, ◌+◌, ◌<◌, ℕ, length, true}
use Rattle.lk_reach.specs.Marks.{IsMarked}
use Rattle.lk_workers.specs.States.{is_in}
use Rattle.lk_workers.proofs.marks.Marks.gather.Given as goal

-- the marks so far are set, and no others
abbrev pub invariant-loop-place : goal.invariant-loop-place
invariant-loop-place l =
    (length l.room.items ≡ length l.fn.room.items)
    × ((n : ℕ) → IsMarked l.fn.room.items n → IsMarked l.room.items n)
    × ((n : ℕ) → IsMarked l.room.items n → IsMarked l.fn.room.items n ⊎ (is_in l.self n ≡ true))
    × ((n : ℕ) → n < l.self.first + l.place → is_in l.self n ≡ true → IsMarked l.room.items n)
