use Rattle.std.proofs.Common.{ℕ, ◌-◌, ◌<◌, ◌≤◌, length}
use Rattle.std.specs.List.{slice_index}
use Rattle.lk_thunks.proofs.sets.place_for.Given as goal

-- those before `low` are less, and those from `high` on aren't
abbrev pub invariant-loop-low : goal.invariant-loop-low
invariant-loop-low l =
    (l.low ≤ l.high) × (l.high ≤ length l.symbols) × ((k : ℕ) → k < l.low → slice_index l.symbols k < l.definition)
    × ((k : ℕ) → l.high ≤ k → k < length l.symbols → l.definition ≤ slice_index l.symbols k)

abbrev pub decreases-loop-low : goal.decreases-loop-low
decreases-loop-low l = l.high - l.low
