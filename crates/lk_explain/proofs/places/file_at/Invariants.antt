use Rattle.std.proofs.Common.{ℕ, ◌<◌, ◌≤◌, ◌-◌, length}
use Rattle.lk_explain.proofs.PlaceLemmas.{start_of}
use Rattle.lk_explain.proofs.places.file_at.Given as goal

-- the files before the first bound start by the place, and those from the second on behind it
abbrev pub invariant-loop-low : goal.invariant-loop-low
invariant-loop-low l =
    (l.low ≤ l.high) × (l.high ≤ length l.files) × ((k : ℕ) → k < l.low → start_of l.link.groups k ≤ l.place)
    × ((k : ℕ) → l.high ≤ k → k < length l.files → l.place < start_of l.link.groups k)

abbrev pub decreases-loop-low : goal.decreases-loop-low
decreases-loop-low l = l.high - l.low
