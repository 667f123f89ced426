-- The table is held against the glyphs at each of the 256 bytes, by computing.
use Rattle.std.proofs.Common.{◌≡◌, ℕ, zero, suc, ◌<◌, ◌≤◌, Bool, true, false, get_or, List, refl, sym, ap, ◌∙◌, arith, inl, inr}
use Rattle.std.specs.Prelude.{◌&&◌, ◌||◌, ◌==◌, nat_lt, not}
use Rattle.std.specs.Fmt.{digit_glyph}
use Rattle.std.specs.Char.{digit_value}
use Rattle.std.proofs.lemmas.Bool.{and_parts, cases_eq}
use Rattle.std.proofs.lemmas.Bool.Decides.{nat_tests}
use Rattle.lk_map.specs.declared.numbers.TheConstants.{DIGITS}
use Rattle.lk_map.specs.Digits.{IsDigitIn}
use Rattle.lk_map.proofs.numbers.hex_digit.Goals as goal

-- whether a byte is the glyph of what it counts, unless that is too much for a digit
is_so : List ℕ → ℕ → Bool
is_so table b = not (nat_lt (get_or table b 0) 16) || ((b == digit_glyph false (get_or table b 0)) && (digit_value b == get_or table b 0))

-- all bytes below n are
are_so : List ℕ → ℕ → Bool
are_so table zero = true
are_so table (suc n) = is_so table n && are_so table n

so_at : (table : List ℕ) (n : ℕ) → are_so table n ≡ true → (b : ℕ) → b < n → is_so table b ≡ true
unfolding are_so
so_at table zero h b lt = absurd (omega arith)
so_at table (suc n) h b lt =
    let (here, below) = and_parts (is_so table n) (are_so table n) h in
    elim (cases_eq b n) [ inl same ↦ rw same here | inr other ↦ so_at table n below b (omega arith) ]

counts : (table : List ℕ) (b d : ℕ) → is_so table b ≡ true → get_or table b 0 ≡ d → d < 16 → (b ≡ digit_glyph false d) × (digit_value b ≡ d)
unfolding is_so
counts table b d so is small = grind (arith, nat_tests)

from_table : (table : List ℕ) (b i d : ℕ) → i ≡ b → d ≡ get_or table i 0 → b < 256 → are_so table 256 ≡ true → (base : ℕ) → base ≤ 16 → d < base → IsDigitIn base b × (digit_value b ≡ d)
from_table table b i d same is below all base high small =
    let at : get_or table b 0 ≡ d = ap (λ k. get_or table k 0) (sym same) ∙ sym is in
    let (glyph, value) = counts table b d (so_at table 256 all b below) at (omega arith) in
    ((d, small, glyph), value)

-- the glyphs below n count as what they are of
are_back : List ℕ → ℕ → Bool
are_back table zero = true
are_back table (suc n) = (get_or table (digit_glyph false n) 0 == n) && are_back table n

back_at : (table : List ℕ) (n : ℕ) → are_back table n ≡ true → (d : ℕ) → d < n → get_or table (digit_glyph false d) 0 ≡ d
unfolding are_back
back_at table zero h d lt = absurd (omega arith)
back_at table (suc n) h d lt =
    let (here, below) = and_parts (get_or table (digit_glyph false n) 0 == n) (are_back table n) h in
    elim (cases_eq d n) [ inl same ↦ (let so : get_or table (digit_glyph false n) 0 ≡ n = grind (arith, nat_tests) in rw same so) | inr other ↦ back_at table n below d (omega arith) ]

none_from_table : (table : List ℕ) (b i r : ℕ) → i ≡ b → r ≡ get_or table i 0 → are_back table 16 ≡ true → (base : ℕ) → base ≤ 16 → base ≤ r → ¬ IsDigitIn base b
none_from_table table b i r same is all base high large (d, small, glyph) =
    let counts : r ≡ d = is ∙ ap (λ k. get_or table k 0) (same ∙ glyph) ∙ back_at table 16 all d (omega arith) in
    omega (arith, counts, small, large)

pub returns-clause-none : goal.returns-clause-none
unfolding are_back
returns-clause-none c = none_from_table DIGITS c.args.byte c.from.result c.from-2.result c.from.ensures c.from-2.ensures refl

pub returns-clause-value : goal.returns-clause-value
unfolding are_so is_so
returns-clause-value c = from_table DIGITS c.args.byte c.from.result c.from-2.result c.from.ensures c.from-2.ensures (omega arith) refl
