-- Alignments are powers of two.
use Rattle.std.specs.Prelude.{◌≡◌, ℕ, ◌+◌, ◌-◌, ◌*◌, ◌<◌, ◌≤◌, ◌^◌, ◌==◌, ◌||◌, true, refl, List, [], ◌∷◌, length, max, min}
use Rattle.std.specs.Int.{◌∣◌}
use Rattle.std.specs.List.{list_any}
use Rattle.std.proofs.Common.{arith, sym, ap, subst, ◌∙◌, inl, inr}
use Rattle.std.proofs.Math.Nat.{dvd-mul_right}
use Rattle.std.proofs.Math.Pow.{pow-lt}
use Rattle.std.proofs.lemmas.Bool.{cases_lt}
use Rattle.std.proofs.lemmas.Bool.Decides.{nat_tests, eqb_tells}
use Rattle.std.proofs.lemmas.Nat.{pow-add}
use Rattle.lk_link.specs.Alignments.{alignments, is_alignment, AlignmentsArePowers}
use Rattle.lk_link.specs.Target.{above_zero}
use Rattle.lk_link.specs.declared.alignment.TheConstants.{GREATEST_ALIGNMENT}

-- an alignment is above 0
pub alignment-pos : (n : ℕ) → is_alignment n ≡ true → 0 < n
alignment-pos n h = above_zero n h

-- an alignment is at most 65,536
pub alignment-le : (n : ℕ) → is_alignment n ≡ true → n ≤ GREATEST_ALIGNMENT
unfolding is_alignment
alignment-le n h = grind (arith, nat_tests)

-- the powers of two from 2 ^ i on
abbrev ArePowersFrom : ℕ → List ℕ → Type 0
ArePowersFrom i [] = Unit {0}
ArePowersFrom i (x ∷ xs) = (x ≡ 2 ^ i) × ArePowersFrom (i + 1) xs

power_of : (n i : ℕ) (xs : List ℕ) → ArePowersFrom i xs → list_any (λ a. n == a) xs ≡ true → (k : ℕ) × (i ≤ k) × (k < i + length xs) × (n ≡ 2 ^ k)
power_of n i [] h e = absurd (cc)
power_of n i (x ∷ xs) h e =
    elim (eqb_tells n x) [
      | inl hit ↦ (i, omega arith, omega arith, hit.1 ∙ h.0)
      | inr miss ↦
          let rest : list_any (λ a. n == a) xs ≡ true = sym (ap (λ b. b || list_any (λ a. n == a) xs) miss.0) ∙ e in
          let found = power_of n (i + 1) xs h.1 rest in
          (found.0, omega (arith, found.1), omega (arith, found.2), found.3)
    ]

one_of : (i k : ℕ) (xs : List ℕ) → ArePowersFrom i xs → i ≤ k → k < i + length xs → list_any (λ a. 2 ^ k == a) xs ≡ true
one_of i k [] h low high = absurd (omega arith)
one_of i k (x ∷ xs) h low high =
    elim (eqb_tells (2 ^ k) x) [
      | inl hit ↦ ap (λ b. b || list_any (λ a. 2 ^ k == a) xs) hit.0
      | inr miss ↦
          let other : i ≡ k → ⊥ = λ e. miss.1 (ap (λ (j : ℕ). 2 ^ j) (sym e) ∙ sym h.0) in
          ap (λ b. b || list_any (λ a. 2 ^ k == a) xs) miss.0 ∙ one_of (i + 1) k xs h.1 (omega arith) (omega arith)
    ]

all_powers : ArePowersFrom 0 alignments
all_powers = (refl, (refl, (refl, (refl, (refl, (refl, (refl, (refl, (refl, (refl, (refl, (refl, (refl, (refl, (refl, (refl, (refl, tt)))))))))))))))))

pub alignments_are_powers : AlignmentsArePowers
unfolding is_alignment
alignments_are_powers n = (
  λ h. let found = power_of n 0 alignments all_powers h in (found.0, omega (arith, found.2), found.3),
  λ p. ap is_alignment p.2 ∙ one_of 0 p.0 alignments all_powers (omega arith) (omega (arith, p.1)),
)

-- ---- two alignments

-- a lesser alignment divides a greater one
pub alignment_divides : (a b : ℕ) → is_alignment a ≡ true → is_alignment b ≡ true → a ≤ b → a ∣ b
alignment_divides a b h g le =
    let p = (alignments_are_powers a).0 h in
    let q = (alignments_are_powers b).0 g in
    elim (cases_lt q.0 p.0) [
      | inl less ↦ absurd (omega (arith, pow-lt less, p.2, q.2))
      | inr more ↦
          let split : q.0 ≡ p.0 + (q.0 - p.0) = omega arith in
          let product : b ≡ a * 2 ^ (q.0 - p.0) = q.2 ∙ ap (λ (k : ℕ). 2 ^ k) split ∙ pow-add 2 p.0 (q.0 - p.0) ∙ ap (λ (n : ℕ). n * 2 ^ (q.0 - p.0)) (sym p.2) in
          subst (λ n. a ∣ n) (sym product) (dvd-mul_right a (2 ^ (q.0 - p.0)))
    ]

-- the greater of two is one
pub max_aligned : (a b : ℕ) → is_alignment a ≡ true → is_alignment b ≡ true → is_alignment (max a b) ≡ true
max_aligned a b h g =
    elim (cases_lt a b) [
      | inl less ↦ let is : max a b ≡ b = omega arith in ap is_alignment is ∙ g
      | inr more ↦ let is : max a b ≡ a = omega arith in ap is_alignment is ∙ h
    ]

-- and the lesser
pub min_aligned : (a b : ℕ) → is_alignment a ≡ true → is_alignment b ≡ true → is_alignment (min a b) ≡ true
min_aligned a b h g =
    elim (cases_lt a b) [
      | inl less ↦ let is : min a b ≡ a = omega arith in ap is_alignment is ∙ h
      | inr more ↦ let is : min a b ≡ b = omega arith in ap is_alignment is ∙ g
    ]

-- alignments lie between 1 and 65,536
pub ruleset alignments_small = (alignment-pos, alignment-le)
