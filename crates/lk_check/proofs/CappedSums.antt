-- Sums where one that is too large is given as the largest number there is.
use Rattle.std.proofs.Common.{◌≡◌, ℕ, min, ◌+◌, List, [], ◌∷◌, ◌++◌, sum, sum_by, arith, refl}
use Rattle.std.specs.List.{AllZip}
use Rattle.std.proofs.lemmas.List.Sums.{sum_by-cons}
use Rattle.rayon.proofs.ListFacts.{sum-append}

-- the sum of numbers that were cut off, cut off
pub capped : {X : Type 0} (f : X → ℕ) (most : ℕ) (xs : List X) (ys : List ℕ) → AllZip (λ x y. y ≡ min (f x) most) xs ys → min (sum ys) most ≡ min (sum_by f xs) most
capped f most [] [] h = refl
capped f most [] (y ∷ ys) h = absurd h
capped f most (x ∷ xs) [] h = absurd h
capped f most (x ∷ xs) (y ∷ ys) h =
    let one : sum (y ∷ []) ≡ y = omega arith in
    omega (arith, sum-append (y ∷ []) ys, sum_by-cons f x xs, h.0, capped f most xs ys h.1)

-- one more number, and two sums put together
pub one_more : (most : ℕ) (xs : List ℕ) (a x r : ℕ) → a ≡ min (sum xs) most → r ≡ min (a + x) most → r ≡ min (sum (xs ++ x ∷ [])) most
one_more most xs a x r before step =
    let one : sum (x ∷ []) ≡ x = omega arith in
    omega (arith, sum-append xs (x ∷ []))

pub joined : (most : ℕ) (xs ys : List ℕ) (a b r : ℕ) → a ≡ min (sum xs) most → b ≡ min (sum ys) most → r ≡ min (a + b) most → r ≡ min (sum (xs ++ ys)) most
joined most xs ys a b r left right step = omega (arith, sum-append xs ys)
