-- Tables that are written by number.
use Rattle.std.proofs.Common.{◌≡◌, ℕ, ◌+◌, ◌<◌, Bool, true, false, cond, List, length, map, sym, ap, ◌∙◌, arith, inl, inr, zero-add}
use Rattle.std.specs.Prelude.{◌==◌, if◌then◌else◌}
use Rattle.std.proofs.lemmas.Bool.{cases_Bool, eqb-true}
use Rattle.std.proofs.lemmas.Bool.Decides.{nat_tests}
use Rattle.std.specs.List.{enumerate_from, slice_index_or}
use Rattle.lk_link.proofs.Numbers.{length-made, made_at}
use Rattle.lk_place.specs.PlacedBefore.{lies_in}

among_last : (first j : ℕ) → lies_in first (j + 1) (first + j) ≡ true
among_last first j = grind (arith, nat_tests)

among_other : (first j p : ℕ) → (p == first + j) ≡ false → lies_in first j p ≡ lies_in first (j + 1) p
among_other first j p h = grind (arith, nat_tests)

-- a range that is filled up to j, and one more
pub range_grows : {X : Type 0} (new old base f : ℕ → X) (first j q : ℕ) → q ≡ first + j
    → ((p : ℕ) → new p ≡ (if p == q then f q else old p))
    → ((p : ℕ) → old p ≡ (if lies_in first j p then f p else base p))
    → (p : ℕ) → new p ≡ (if lies_in first (j + 1) p then f p else base p)
range_grows {X} new old base f first j q at writes filled p =
    elim (cases_Bool (p == q)) [
      | inl here ↦
          let same : p ≡ q = eqb-true p q here in
          writes p
          ∙ ap (λ (b : Bool). cond b (f q) (old p)) here
          ∙ ap f (sym same)
          ∙ ap (λ (b : Bool). cond b (f p) (base p)) (sym (ap (lies_in first (j + 1)) (same ∙ at) ∙ among_last first j))
      | inr there ↦
          writes p
          ∙ ap (λ (b : Bool). cond b (f q) (old p)) there
          ∙ filled p
          ∙ ap (λ (b : Bool). cond b (f p) (base p)) (among_other first j p (sym (ap (λ (n : ℕ). p == n) at) ∙ there))
    ]

out_of : (first j : ℕ) → lies_in first j (first + j) ≡ false
out_of first j = grind (arith, nat_tests)

-- a range that is changed up to j, and one more
pub range_changes : {X : Type 0} (new old base : ℕ → X) (f : X → X) (first j q : ℕ) → q ≡ first + j
    → ((p : ℕ) → new p ≡ (if p == q then f (old q) else old p))
    → ((p : ℕ) → old p ≡ (if lies_in first j p then f (base p) else base p))
    → (p : ℕ) → new p ≡ (if lies_in first (j + 1) p then f (base p) else base p)
range_changes {X} new old base f first j q at writes changed =
    let here : old q ≡ base q = changed q ∙ ap (λ (b : Bool). cond b (f (base q)) (base q)) (ap (lies_in first j) at ∙ out_of first j) in
    range_grows new old base (λ p. f (base p)) first j q at (λ p. writes p ∙ ap (λ (x : X). cond (p == q) (f x) (old p)) here) changed

-- ---- lists that are made of the numbers of other lists' elements

-- they are as long
pub by_number_count : {X Y : Type 0} (f : ℕ → Y) (xs : List X) (all : List Y) → all ≡ map (λ q. f q.0) (enumerate_from 0 xs) → length all ≡ length xs
by_number_count f xs all is = ap length is ∙ length-made f xs 0

-- and are read by number
pub by_number_read : {X Y : Type 0} (f : ℕ → Y) (xs : List X) (all : List Y) (i : ℕ) (d : Y) → all ≡ map (λ q. f q.0) (enumerate_from 0 xs) → i < length xs → slice_index_or all i d ≡ f i
by_number_read {X} {Y} f xs all i d is below = ap (λ (ys : List Y). slice_index_or ys i d) is ∙ made_at f d xs 0 i below ∙ ap f (zero-add i)
