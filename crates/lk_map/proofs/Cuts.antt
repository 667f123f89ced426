-- The parts of a text, by where its first part ends.
use Rattle.std.proofs.Common.{◌≡◌, ℕ, ◌+◌, ◌-◌, ◌<◌, ◌≤◌, Bool, true, false, List, [], ◌∷◌, Option, Some, None, length, get_or, take, drop, refl, arith}
use Rattle.std.specs.List.{position, position_or_len, slice_split}
use Rattle.std.proofs.lemmas.List.{take_rest}
use Rattle.std.proofs.lemmas.List.Splits.{slice_split_first, slice_split_none}
use Rattle.std.proofs.lemmas.List.Sums.{fails_before_first, position_or_len_is}
use Rattle.memchr.specs.Find.{IsFirstByte}
use Rattle.memchr.specs.Find.{is_byte as is_this}
use Rattle.lk_map.specs.Cutting.{is_byte}
use Rattle.std.proofs.lemmas.List.Quantifiers.{position-Some}
use Rattle.std.proofs.lemmas.Bool.Decides.{nat_tests}

module _ (p : ℕ → Bool) (xs : List ℕ) where
  -- the place is within the text
  pub is_within : (k : ℕ) → position p xs ≡ Some k → k < length xs
  is_within k found = (position-Some p xs k 0 found).0

  the_place : (k : ℕ) → position p xs ≡ Some k → (position_or_len p xs < length xs) × (position_or_len p xs ≡ k)
  the_place k found = grind (arith, nat_tests)

  nowhere : position p xs ≡ None → length xs ≤ position_or_len p xs
  nowhere none = grind (arith, nat_tests)

  -- where a byte is found, the first part ends there, and behind it are those of the rest
  pub cut_at : (k : ℕ) → position p xs ≡ Some k → slice_split p xs ≡ take k xs ∷ slice_split p (take (length xs - (k + 1)) (drop (k + 1) xs))
  cut_at k found =
      let (below, is) = the_place k found in
      rw (take_rest xs (k + 1)) (rw (← is) (slice_split_first p xs 0 below))

  -- where none is, the text is the one part
  pub cut_nowhere : position p xs ≡ None → slice_split p xs ≡ xs ∷ []
  cut_nowhere none =
      let all : length xs ≤ position_or_len p xs = nowhere none in
      slice_split_none p xs (λ k d h. let below : k < position_or_len p xs = omega arith in fails_before_first p xs k d below)

not_so : (b : Bool) → (b ≡ true → ⊥) → b ≡ false
not_so true h = absurd (h refl)
not_so false h = refl

-- what a search finds is the first place
pub is_first : (byte : ℕ) (xs : List ℕ) (r : Option ℕ) → IsFirstByte (is_this byte) xs r → r ≡ position (is_byte byte) xs
is_first byte xs None none =
    let all : position_or_len (is_byte byte) xs ≡ length xs = position_or_len_is (is_byte byte) xs (length xs) 0 (omega arith) (λ k below. not_so (is_byte byte (get_or xs k 0)) (none k (omega arith) below)) (λ below. absurd (omega (arith, below))) in
    grind (arith, nat_tests)
is_first byte xs (Some place) (first, here) =
    let at : position_or_len (is_byte byte) xs ≡ place = position_or_len_is (is_byte byte) xs place 0 (let h = first.high in omega (arith, h)) (λ k below. not_so (is_byte byte (get_or xs k 0)) (first.before k (omega arith) below)) (λ below. here) in
    let within = first.high in
    grind (arith, nat_tests)
