-- Counts of singletons by group, and what the code goes by where it counts. Contracts of private functions speak of the latter.
use Rattle.std.specs.Prelude.{◌≡◌, ℕ, ◌+◌, ◌-◌, ◌^◌, ◌<◌, ◌==◌, ◌&&◌, Bool, if◌then◌else◌, List, length, min, sum_by}
use Rattle.std.specs.List.{slice_index_or}

-- how many there are in all groups, by how many each has
abbrev pub singleton_count : List (ℕ × ℕ) → ℕ
singleton_count sizes = sum_by (λ g. g.0) sizes

-- a count and the bytes of names with one more, whose name is so many bytes long; numbers stop at the greatest of their types
abbrev pub with_one : ℕ → ℕ × ℕ → ℕ × ℕ
with_one name_len g = (min (g.0 + 1) (2 ^ 32 - 1), min (g.1 + (name_len + 1)) (2 ^ 64 - 1))

-- a group has counted one if it is one, and all else stays
pub record CountsOne (old : List (ℕ × ℕ)) (group : ℕ) (is_one : Bool) (name_len : ℕ) (new : List (ℕ × ℕ)) : Type 0 where
  pub count : length new ≡ length old
  pub each : (g : ℕ) → g < length old → slice_index_or new g (0, 0)
      ≡ (if group == g && is_one then with_one name_len (slice_index_or old g (0, 0)) else slice_index_or old g (0, 0))
