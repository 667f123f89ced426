-- Items with numbers: the words of indexes behind models.
use Rattle.std.specs.Prelude.{◌≡◌, ℕ, ◌<◌, ◌≤◌, ◌==◌, List, length, filter, map, slice_index}

-- the items of this number, in their order
abbrev pub items_of : {X : Type 0} → ℕ → List (ℕ × X) → List X
items_of n pairs = map (λ p. p.1) (filter (λ p. p.0 == n) pairs)

-- the number n stands from place low to place high, high left out, and nowhere else
pub record IsRangeOf (numbers : List ℕ) (n low high : ℕ) : Type 0 where
  pub ordered : low ≤ high
  pub within : high ≤ length numbers
  pub below : (k : ℕ) → k < low → slice_index numbers k < n
  pub inside : (k : ℕ) → low ≤ k → k < high → slice_index numbers k ≡ n
  pub above : (k : ℕ) → high ≤ k → k < length numbers → n < slice_index numbers k
