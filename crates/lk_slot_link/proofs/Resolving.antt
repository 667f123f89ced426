-- Which words of flags give a resolution.
use Rattle.std.proofs.Common.{◌≡◌, ◌≢◌, ℕ, zero, suc, ◌<◌, ◌^◌, true, false, not, refl, ap, ◌∙◌, inl, inr, ◌⊎◌, arith, bit_and, bit_or, ne_eqb}
use Rattle.std.specs.Prelude.{◌==◌}
use Rattle.std.specs.Int.{bit_at}
use Rattle.std.proofs.lemmas.Bool.{cases_eq, cases_lt}
use Rattle.std.proofs.lemmas.Nat.Bits.{bit_at-zero, bit_at_above, bit_at_and, bit_at_or, same_from_bits}
use Rattle.lk_link.specs.Flags.{has_resolution, resolution}

-- none of the bits is set
pub without : (a : ℕ) → bit_and a resolution ≡ 0 → has_resolution a ≡ false
without a is = ap (λ n. not (n == 0)) is

with_one : (a : ℕ) → bit_and a resolution ≢ 0 → has_resolution a ≡ true
with_one a isnt = ap not (ne_eqb (bit_and a resolution) 0 isnt)

has_one : (a : ℕ) → has_resolution a ≡ true → bit_and a resolution ≢ 0
has_one a h is = absurd (cc (h, without a is))

no_bit : (a i : ℕ) → bit_and a resolution ≡ 0 → bit_at (bit_and a resolution) i ≡ 0
no_bit a i is = ap (λ n. bit_at n i) is ∙ bit_at-zero i

neither : (a b : ℕ) → bit_and a resolution ≡ 0 → bit_and b resolution ≡ 0 → bit_and (bit_or a b) resolution ≡ 0
neither a b left right = same_from_bits (bit_and (bit_or a b) resolution) 0 (λ i.
    omega (arith, bit_at_and (bit_or a b) resolution i, bit_at_or a b i, bit_at_and a resolution i, bit_at_and b resolution i, no_bit a i left, no_bit b i right, bit_at-zero i))

-- joined words give a resolution only if one of them does
pub joined_resolve : (a b : ℕ) → has_resolution (bit_or a b) ≡ true → (has_resolution a ≡ true) ⊎ (has_resolution b ≡ true)
joined_resolve a b h = elim (cases_eq (bit_and a resolution) 0) [
  | inl left ↦ elim (cases_eq (bit_and b resolution) 0) [
    | inl right ↦ absurd (has_one (bit_or a b) h (neither a b left right))
    | inr is ↦ inr (with_one b is)
  ]
  | inr is ↦ inl (with_one a is)
]

-- the first six bits give none
low_bits : (i : ℕ) → i < 6 → bit_at resolution i ≡ 0
low_bits zero lt = refl
low_bits (suc zero) lt = refl
low_bits (suc (suc zero)) lt = refl
low_bits (suc (suc (suc zero))) lt = refl
low_bits (suc (suc (suc (suc zero)))) lt = refl
low_bits (suc (suc (suc (suc (suc zero))))) lt = refl
low_bits (suc (suc (suc (suc (suc (suc i)))))) lt = absurd (omega arith)

pub few_resolve : (a : ℕ) → a < 2 ^ 6 → has_resolution a ≡ false
few_resolve a few = without a (same_from_bits (bit_and a resolution) 0 (λ i. elim (cases_lt i 6) [
  | inl low ↦ omega (arith, bit_at_and a resolution i, low_bits i low, bit_at-zero i)
  | inr high ↦ omega (arith, bit_at_and a resolution i, bit_at_above a 6 i few high, bit_at-zero i)
]))
