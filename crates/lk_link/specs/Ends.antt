-- Lists that follow each other, and where each of them ends: the words of indexes behind models.
use Rattle.std.specs.Prelude.{◌≡◌, ℕ, zero, suc, ◌+◌, ◌-◌, ◌^◌, ◌<◌, ◌≤◌, List, length, take, min, slice_index, sum_by}

-- the ends of lists: how many items stand in each list and in those before it, as far as 64 bits go
pub record AreEnds {X : Type 0} (size : X → ℕ) (ends : List ℕ) (lists : List X) : Type 0 where
  pub count : length ends ≡ length lists
  pub each : (k : ℕ) → k < length lists → slice_index ends k ≡ min (sum_by size (take (k + 1) lists)) (2 ^ 64 - 1)

-- where the k-th list begins: at the end of the one before
abbrev pub start_of : List ℕ → ℕ → ℕ
start_of ends zero = 0
start_of ends (suc k) = slice_index ends k

-- item n of all lists is item i of the k-th list
pub record IsPlaceOf (ends : List ℕ) (n k i : ℕ) : Type 0 where
  pub there : k < length ends
  pub offset : start_of ends k + i ≡ n
  pub below : n < slice_index ends k

-- no list before `low`, and none behind `high`, has an item
pub record IsBetween (ends : List ℕ) (low high item : ℕ) : Type 0 where
  pub ordered : low ≤ high
  pub within : high ≤ length ends
  pub from : start_of ends low ≤ item
  pub below : high < length ends → item < slice_index ends high
