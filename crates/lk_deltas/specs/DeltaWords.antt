-- What the code keeps of deleted ranges. Contracts of private functions and the invariant of a type speak of these.
use Rattle.std.specs.Prelude.{◌≡◌, ℕ, ◌+◌, ◌-◌, ◌^◌, ◌<◌, ◌≤◌, List, [], ◌∷◌, map, sum_by}
use Rattle.lk_deltas.specs.declared.deltas.Delta.{Delta}

-- ranges that rise from a number on, each with the bytes that are deleted before it, of which there are some before the first
abbrev pub AreDeltas : ℕ → ℕ → List Delta → Type 0
AreDeltas low bytes [] = low ≤ 2 ^ 64 - 1
AreDeltas low bytes (d ∷ ds) = (low ≤ d.range.0) × (0 < d.range.1) × (d.before ≡ bytes) × AreDeltas (d.range.0 + d.range.1) (bytes + d.range.1) ds

-- the ranges alone
abbrev pub ranges_of : List Delta → List (ℕ × ℕ)
ranges_of ds = map (λ d. d.range) ds

-- all the bytes that they delete
abbrev pub bytes_of : List Delta → ℕ
bytes_of ds = sum_by (λ d. d.range.1) ds
