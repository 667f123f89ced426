-- The digits of numbers: how many there are, and that they are text.
use Rattle.std.proofs.Common.{◌≡◌, ℕ, zero, suc, ◌+◌, ◌-◌, ◌/◌, ◌%◌, ◌^◌, ◌<◌, ◌≤◌, ◌==◌, ◌*◌, ◌≢◌, Bool, true, false, true≢false, inl, inr, if◌then◌else◌, List, [], ◌∷◌, ◌++◌, drop, length, slice_set, refl, sym, ap, ◌∙◌, arith, nat_lt}
use Rattle.std.proofs.Math.Nat.{pow-suc}
use Rattle.std.proofs.lemmas.Grind.{drop-set_at}
use Rattle.std.proofs.lemmas.Bool.{eq-eqb}
use Rattle.std.proofs.lemmas.Bool.Decides.{eqb_tells}
use Rattle.std.specs.Fmt.{digit_glyph, digits, digits_onto}
use Rattle.std.specs.Str.{IsAscii, IsUtf8}
use Rattle.std.proofs.lemmas.Str.{IsUtf8-from_ascii}
use Rattle.std.proofs.lemmas.Str.Ascii.{IsAscii-cons, IsAscii-nil}

either : (c : Bool) (p q r s t : List ℕ) → p ≡ r ++ t → q ≡ s ++ t → (if c then p else q) ≡ (if c then r else s) ++ t
either true p q r s t h k = h
either false p q r s t h k = k

onto_append : (k n : ℕ) (xs ys : List ℕ) → digits_onto k 16 false n (xs ++ ys) ≡ digits_onto k 16 false n xs ++ ys
onto_append zero n xs ys = refl
onto_append (suc k) n xs ys = either (n / 16 == 0) _ _ _ _ ys refl (onto_append k (n / 16) (digit_glyph false (n % 16) ∷ xs) ys)

-- a digit that is written stands in front
pub digit_written : (room : List ℕ) (i j x digit : ℕ) → i + 1 ≡ j → i < length room → x ≡ digit → drop i (slice_set room i x) ≡ digit ∷ drop j room
digit_written room i j x digit next there is = drop-set_at room i i x refl there ∙ ap (λ (y : ℕ). y ∷ drop (i + 1) room) is ∙ ap (λ (n : ℕ). digit ∷ drop n room) next

-- the last k digits of a number at most, in front of a list
unfoldable pub in_front : ℕ → ℕ → List ℕ → List ℕ
in_front k n ys = digits_onto k 16 false n ys

-- at first all digits
pub in_front_all : (n : ℕ) (ys : List ℕ) → in_front 64 n ys ≡ digits 16 false n ++ ys
unfolding in_front digits
in_front_all n ys = onto_append 64 n [] ys

-- at last none
pub in_front_none : (n : ℕ) (ys : List ℕ) → in_front 0 n ys ≡ ys
unfolding in_front
in_front_none n ys = refl

ne-eqb : (a b : ℕ) → a ≢ b → (a == b) ≡ false
ne-eqb a b h = elim (eqb_tells a b) [
  | inl e ↦ absurd (h e.1)
  | inr e ↦ e.0
]

by_test : (k n : ℕ) (acc : List ℕ) (c : Bool) → (n / 16 == 0) ≡ c
    → digits_onto (suc k) 16 false n acc ≡ (if c then digit_glyph false (n % 16) ∷ acc else digits_onto k 16 false (n / 16) (digit_glyph false (n % 16) ∷ acc))
by_test k n acc c h = ap (λ b. if b then digit_glyph false (n % 16) ∷ acc else digits_onto k 16 false (n / 16) (digit_glyph false (n % 16) ∷ acc)) h

-- the last digit, where no other is left
pub in_front_last : (k n : ℕ) (ys : List ℕ) → 0 < k → n / 16 ≡ 0 → in_front k n ys ≡ digit_glyph false (n % 16) ∷ ys
unfolding in_front
in_front_last zero n ys h e = absurd (omega arith)
in_front_last (suc k) n ys h e = by_test k n ys true (eq-eqb _ _ e)

-- a digit, and those that are left
pub in_front_step : (k n : ℕ) (ys : List ℕ) → 0 < k → n / 16 ≢ 0 → in_front k n ys ≡ in_front (k - 1) (n / 16) (digit_glyph false (n % 16) ∷ ys)
unfolding in_front
in_front_step zero n ys h e = absurd (omega arith)
in_front_step (suc k) n ys h e =
    by_test k n ys false (ne-eqb (n / 16) 0 e)
    ∙ ap (λ (j : ℕ). digits_onto j 16 false (n / 16) (digit_glyph false (n % 16) ∷ ys)) {x = k} {y = suc k - 1} (omega arith)

short_either : (c : Bool) (p q : List ℕ) (n : ℕ) → length p ≤ n → (c ≡ false → length q ≤ n) → length (if c then p else q) ≤ n
short_either true p q n h k = h
short_either false p q n h k = k refl

below_one : (n : ℕ) → n < 16 ^ 1 → (n / 16 == 0) ≡ false → ⊥
below_one n h t =
    let small : n < 16 = h in
    let none : n / 16 ≡ 0 = omega arith in
    true≢false (sym (eq-eqb _ _ none) ∙ t)

times : (m n : ℕ) → n < 16 ^ suc (suc m) → n < 16 ^ suc m * 16
times m n h = rw (pow-suc 16 (suc m)) at h

short_onto : (m k n : ℕ) (acc : List ℕ) → n < 16 ^ suc m → length (digits_onto k 16 false n acc) ≤ suc m + length acc
short_onto m zero n acc h = omega arith
short_onto zero (suc k) n acc h =
    short_either (n / 16 == 0) _ _ (suc zero + length acc) (omega arith) (λ t. absurd (below_one n h t))
short_onto (suc m) (suc k) n acc h =
    let less : n < 16 ^ suc m * 16 = times m n h in
    let rest = short_onto m k (n / 16) (digit_glyph false (n % 16) ∷ acc) (omega (arith, less)) in
    short_either (n / 16 == 0) _ _ (suc (suc m) + length acc) (omega arith) (λ t. omega (arith, rest))

-- a number below 2^64 has at most 16 digits
pub short_digits : (n : ℕ) → n < 2 ^ 64 → length (digits 16 false n) ≤ 16
unfolding digits
short_digits n h = short_onto 15 64 n [] h

glyph_below : (d : ℕ) → d < 16 → digit_glyph false d < 128
glyph_below d h = below (nat_lt d 10)
  where
    below : (c : Bool) → (if c then 48 + d else 87 + d) < 128
    below true = omega arith
    below false = omega arith

ascii_either : (c : Bool) (p q : List ℕ) → IsAscii p → IsAscii q → IsAscii (if c then p else q)
ascii_either true p q h k = h
ascii_either false p q h k = k

ascii_onto : (k n : ℕ) (acc : List ℕ) → IsAscii acc → IsAscii (digits_onto k 16 false n acc)
ascii_onto zero n acc h = h
ascii_onto (suc k) n acc h =
    let small : n % 16 < 16 = omega arith in
    let more : IsAscii (digit_glyph false (n % 16) ∷ acc) = IsAscii-cons _ _ (glyph_below (n % 16) small) h in
    ascii_either (n / 16 == 0) _ _ more (ascii_onto k (n / 16) (digit_glyph false (n % 16) ∷ acc) more)

-- digits are text
pub digits_are_text : (n : ℕ) → IsUtf8 (digits 16 false n)
unfolding digits
digits_are_text n = IsUtf8-from_ascii _ (ascii_onto 64 n [] IsAscii-nil)
