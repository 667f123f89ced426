use Rattle.std.specs.Prelude.{◌≡◌, ℕ, ◌<◌, length, slice_index}
use Rattle.lk_flags.proofs.flags.FlagTable.close.Given as goal

abbrev pub invariant-loop-place : goal.invariant-loop-place
invariant-loop-place g l =
    (length l.room.items ≡ l.closed.words.len) × ((k : ℕ) → k < l.place → slice_index l.room.items k ≡ slice_index l.closed.words.items k)
