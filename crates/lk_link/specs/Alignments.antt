-- Alignments, and the numbers that are multiples of them.
use Rattle.std.specs.Prelude.{◌≡◌, ℕ, ◌+◌, ◌-◌, ◌^◌, ◌%◌, ◌<◌, ◌≤◌, Bool, List, [], ◌∷◌, ◌==◌, IsTrue, ◌↔◌}
use Rattle.std.specs.Int.{◌∣◌}
use Rattle.std.specs.List.{list_any}

-- the powers of two up to 65,536
abbrev pub alignments : List ℕ
alignments = 1 ∷ 2 ∷ 4 ∷ 8 ∷ 16 ∷ 32 ∷ 64 ∷ 128 ∷ 256 ∷ 512 ∷ 1024 ∷ 2048 ∷ 4096 ∷ 8192 ∷ 16384 ∷ 32768 ∷ 65536 ∷ []

-- whether a number is one of them (libwild: `Alignment::new`)
unfoldable pub is_alignment : ℕ → Bool
is_alignment n = list_any (λ a. n == a) alignments

-- m is the least multiple of a at or above n
pub record IsLeastMultiple (a n m : ℕ) : Type 0 where
  pub multiple : a ∣ m
  pub reaches : n ≤ m
  pub least : m < n + a

-- m is the greatest multiple of a at or below n
pub record IsGreatestMultiple (a n m : ℕ) : Type 0 where
  pub multiple : a ∣ m
  pub within : m ≤ n
  pub greatest : n < m + a

-- m is the least number at or above n with the remainder that r has
pub record IsLeastCongruent (a r n m : ℕ) : Type 0 where
  pub congruent : m % a ≡ r % a
  pub reaches : n ≤ m
  pub least : m < n + a

-- the least number at or above n with the remainder that r has, computed
abbrev pub next_congruent : ℕ → ℕ → ℕ → ℕ
next_congruent a r n = n + (r % a + a - n % a) % a

-- each alignment is a power of two, and each such power is one
abbrev pub AlignmentsArePowers : Type 0
AlignmentsArePowers = (n : ℕ) → IsTrue (is_alignment n) ↔ ((k : ℕ) × (k ≤ 16) × (n ≡ 2 ^ k))
