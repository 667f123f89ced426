-- What is deleted of a section, and where its offsets go.
use Rattle.std.specs.Prelude.{ℕ, ◌+◌, ◌-◌, ◌^◌, ◌<◌, ◌≤◌, ◌⊎◌, List, [], ◌∷◌, ◌++◌, Option, Some, None, min, sum_by}
use Rattle.std.specs.List.{All}
use Rattle.std.specs.List.Sorted.{IsPermutation}

-- ranges of bytes, each a start and a length, rise between two numbers: each has bytes, and starts where the one before ends or behind it
abbrev pub RiseWithin : ℕ → ℕ → List (ℕ × ℕ) → Type 0
RiseWithin low high [] = low ≤ high
RiseWithin low high (r ∷ rs) = (low ≤ r.0) × (0 < r.1) × RiseWithin (r.0 + r.1) high rs

-- ranges that can be deleted of a section: they rise, and end below 2^64
abbrev pub AreDeletions : List (ℕ × ℕ) → Type 0
AreDeletions ranges = RiseWithin 0 (2 ^ 64 - 1) ranges

-- how many bytes of a range stand before an offset
abbrev pub bytes_before : ℕ → ℕ × ℕ → ℕ
bytes_before offset r = min r.1 (offset - r.0)

-- where an offset goes: by as many bytes towards the start as are deleted before it (libwild: `opt_input_to_output`)
unfoldable pub mapped : List (ℕ × ℕ) → ℕ → ℕ
mapped ranges offset = offset - sum_by (bytes_before offset) ranges

-- so in a section of which there may be ranges at all
abbrev pub mapped_by : Option (List (ℕ × ℕ)) → ℕ → ℕ
mapped_by None offset = offset
mapped_by (Some ranges) offset = mapped ranges offset

-- a list has the ranges of two others, and can be deleted
pub record AreBoth (old more all : List (ℕ × ℕ)) : Type 0 where
  pub moved : IsPermutation (old ++ more) all
  pub rising : AreDeletions all

-- two ranges have no byte in common: one ends where the other starts, or before it
abbrev pub IsApart : ℕ × ℕ → ℕ × ℕ → Type 0
IsApart r s = (r.0 + r.1 ≤ s.0) ⊎ (s.0 + s.1 ≤ r.0)

-- none of some ranges has a byte in common with one of others
abbrev pub AreApart : List (ℕ × ℕ) → List (ℕ × ℕ) → Type 0
AreApart old more = All (λ r. All (IsApart r) more) old
