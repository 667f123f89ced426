-- What is written of a number, digit by digit from its end.
use Rattle.std.proofs.Common.{◌≡◌, ℕ, suc, zero, ◌+◌, ◌*◌, ◌/◌, ◌%◌, ◌^◌, ◌<◌, ◌≤◌, true, false, List, [], ◌∷◌, ◌++◌, Option, Some, None, length, get_or, take, refl, sym, ap, ◌∙◌, arith}
use Rattle.std.specs.Prelude.{◌==◌, nat_lt, if◌then◌else◌}
use Rattle.std.specs.Fmt.{digit_glyph, digits_onto}
use Rattle.std.specs.Str.Parse.{digits_value}
use Rattle.std.proofs.lemmas.List.{append_assoc}
use Rattle.std.proofs.lemmas.Bool.Decides.{nat_tests}
use Rattle.std.proofs.Math.Nat.{div-eq_of_lt, one-mul, pow-suc, pow-zero}
use Rattle.std.specs.Char.{digit_value}
use Rattle.std.proofs.lemmas.Int.Digits.{digits_value_more}
use Rattle.std.proofs.lemmas.Str.Parse.{digits_value-take-le}

-- ---- digits from the last one on

module _ (base : ℕ) where
  -- digits in front of others
  written_onto : (turns left : ℕ) (acc : List ℕ) → digits_onto turns base false left acc ≡ digits_onto turns base false left [] ++ acc
  written_onto zero left acc = refl
  written_onto (suc turns) left acc =
      let glyph = digit_glyph false (left % base) in
      elim (left / base == 0) as (λ b. (if b then glyph ∷ acc else digits_onto turns base false (left / base) (glyph ∷ acc)) ≡ (if b then glyph ∷ [] else digits_onto turns base false (left / base) (glyph ∷ [])) ++ acc) [
        | true ↦ refl
        | false ↦
            written_onto turns (left / base) (glyph ∷ acc)
            ∙ sym (append_assoc (digits_onto turns base false (left / base) []) (glyph ∷ []) acc)
            ∙ ap (λ ds. ds ++ acc) (sym (written_onto turns (left / base) (glyph ∷ [])))
      ]

  -- the digits before the last
  pub front : ℕ → ℕ → List ℕ
  front turns left = if left / base == 0 then [] else digits_onto turns base false (left / base) []

  pub written_push : (turns left : ℕ) → digits_onto (suc turns) base false left [] ≡ front turns left ++ digit_glyph false (left % base) ∷ []
  unfolding front
  written_push turns left =
      let glyph = digit_glyph false (left % base) in
      elim (left / base == 0) as (λ b. (if b then glyph ∷ [] else digits_onto turns base false (left / base) (glyph ∷ [])) ≡ (if b then [] else digits_onto turns base false (left / base) []) ++ glyph ∷ []) [
        | true ↦ refl
        | false ↦ written_onto turns (left / base) (glyph ∷ [])
      ]

  pub front_last : (turns left : ℕ) → left / base ≡ 0 → front turns left ≡ []
  unfolding front
  front_last turns left is = rw is

  pub front_more : (turns left : ℕ) → 0 < left / base → front turns left ≡ digits_onto turns base false (left / base) []
  unfolding front
  front_more turns left some = let no : (left / base == 0) ≡ false = grind (arith, nat_tests) in rw no

lt_le : {a b c : ℕ} → a < b → b ≤ c → a < c
lt_le h k = omega arith

through : (most a d b e f : ℕ) → e ≤ f → e ≡ b + d → b ≡ a → most ≤ a + d → most ≤ f
through most a d b e f h1 h2 h3 h4 = omega arith

-- a number with one more digit had a turn left
pub one_more : (base left turns : ℕ) → 2 ≤ base → left < base ^ suc turns → 0 < left / base → (t : ℕ) × (turns ≡ suc t)
one_more base left zero low fits some =
    let below : left < base = rw (pow-suc, pow-zero, one-mul) at fits in
    let none : left / base ≡ 0 = div-eq_of_lt below in
    absurd (omega arith)
one_more base left (suc t) low fits some = (t, refl)

-- ---- a value that is too large stays so

module _ (base : ℕ) (word : List ℕ) (i : ℕ) where
  pub value_more : i < length word → digits_value base (take (i + 1) word) ≡ digits_value base (take i word) * base + digit_value (get_or word i 0)
  value_more below = digits_value_more base word i below

  pub stays_large : (value : ℕ) → 1 ≤ base → i < length word → digits_value base (take i word) ≡ value → 2 ^ 64 ≤ value * base + digit_value (get_or word i 0) → 2 ^ 64 ≤ digits_value base word
  stays_large value low below is large =
      let so_far : digits_value base (take (i + 1) word) ≤ digits_value base word = digits_value-take-le base word (i + 1) low in
      let more : digits_value base (take (i + 1) word) ≡ digits_value base (take i word) * base + digit_value (get_or word i 0) = value_more below in
      let same : digits_value base (take i word) * base ≡ value * base = ap (λ v. v * base) is in
      through (2 ^ 64) (value * base) (digit_value (get_or word i 0)) (digits_value base (take i word) * base) (digits_value base (take (i + 1) word)) (digits_value base word) so_far more same large

-- a number that has 64 bits, or none
abbrev within_64 : ℕ → Option ℕ
within_64 n = if nat_lt n (2 ^ 64) then Some n else None

pub fits_not : (n : ℕ) → within_64 n ≡ None → 2 ^ 64 ≤ n
fits_not n e = grind (arith, nat_tests)

pub fits_so : (n m : ℕ) → within_64 n ≡ Some m → (n ≡ m) × (m < 2 ^ 64)
fits_so n m e = grind (arith, nat_tests)
