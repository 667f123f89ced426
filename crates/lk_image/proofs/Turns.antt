-- Turns of walks over numbered things.
use Rattle.std.proofs.Common.{◌≡◌, ℕ, zero, suc, ◌+◌, List, [], ◌∷◌, ◌++◌, length, map, fold, Some, refl, sym, ap, ◌∙◌, arith}
use Rattle.std.specs.List.{enumerate_from, flat_map, slice_get}
use Rattle.std.proofs.lemmas.Grind.{flat_map-append}
use Rattle.std.proofs.lemmas.List.{append-nil, length-map, map_push}
use Rattle.std.proofs.lemmas.List.Sums.{fold-append}
use Rattle.lk_link.proofs.Elements.{append_left}

nothing_first : {X : Type 0} (xs ys : List X) → xs ++ ys ≡ [] → xs ≡ []
nothing_first [] ys h = refl
nothing_first (x ∷ xs) ys h = absurd (cc)

nothing_second : {X : Type 0} (xs ys : List X) → xs ++ ys ≡ [] → ys ≡ []
nothing_second [] ys h = h
nothing_second (x ∷ xs) ys h = absurd (cc)

numbers_more : {X : Type 0} (n : ℕ) (xs : List X) (x : X) → enumerate_from n (xs ++ x ∷ []) ≡ enumerate_from n xs ++ (n + length xs, x) ∷ []
numbers_more {X} n [] x = let e : n ≡ n + 0 = omega arith in ap (λ (k : ℕ). (k, x) ∷ []) e
numbers_more {X} n (y ∷ xs) x =
    let e : n + 1 + length xs ≡ n + suc (length xs) = omega arith in
    ap (λ (ps : List (ℕ × X)). (n, y) ∷ ps) (numbers_more (n + 1) xs x) ∙ ap (λ (k : ℕ). (n, y) ∷ (enumerate_from (n + 1) xs ++ (k, x) ∷ [])) e

-- what comes of one thing more, with its number
pub comes_more : {X Y Z : Type 0} (f : X → Y) (g : ℕ × Y → List Z) (xs : List X) (x : X) (n : ℕ) → n ≡ length xs
    → flat_map g (enumerate_from 0 (map f (xs ++ x ∷ []))) ≡ flat_map g (enumerate_from 0 (map f xs)) ++ g (n, f x)
comes_more {X} {Y} {Z} f g xs x n number =
    let before : List (ℕ × Y) = enumerate_from 0 (map f xs) in
    let place : 0 + length (map f xs) ≡ n = omega (arith, length-map xs f, number) in
    ap (λ (ys : List Y). flat_map g (enumerate_from 0 ys)) (map_push f xs x) ∙ ap (flat_map g) (numbers_more 0 (map f xs) (f x))
    ∙ ap (λ (k : ℕ). flat_map g (before ++ (k, f x) ∷ [])) place
    ∙ flat_map-append g before ((n, f x) ∷ []) ∙ ap (λ (zs : List Z). flat_map g before ++ zs) (append-nil (g (n, f x)))

-- what is folded over it
pub folds_more : {X Y Z A : Type 0} (h : A → Z → A) (a b c : A) (f : X → Y) (g : ℕ × Y → List Z) (xs : List X) (x : X) (n : ℕ) → n ≡ length xs
    → b ≡ fold h a (flat_map g (enumerate_from 0 (map f xs))) → c ≡ fold h b (g (n, f x))
    → c ≡ fold h a (flat_map g (enumerate_from 0 (map f (xs ++ x ∷ []))))
folds_more {X} {Y} {Z} {A} h a b c f g xs x n number so_far next =
    next ∙ ap (λ (z : A). fold h z (g (n, f x))) so_far
    ∙ sym (ap (λ (zs : List Z). fold h a zs) (comes_more f g xs x n number) ∙ fold-append h a (flat_map g (enumerate_from 0 (map f xs))) (g (n, f x)))

-- nothing in two lists is nothing in both
pub nothing_more : {X : Type 0} (xs ys : List X) → xs ≡ [] → ys ≡ [] → xs ++ ys ≡ []
nothing_more {X} xs ys none here = ap (λ (zs : List X). zs ++ ys) none ∙ here

-- no things come of one more
pub none_more : {X Y Z : Type 0} (f : X → Y) (g : ℕ × Y → List Z) (xs : List X) (x : X) (n : ℕ) → n ≡ length xs
    → flat_map g (enumerate_from 0 (map f xs)) ≡ [] → g (n, f x) ≡ [] → flat_map g (enumerate_from 0 (map f (xs ++ x ∷ []))) ≡ []
none_more f g xs x n number none here = comes_more f g xs x n number ∙ nothing_more (flat_map g (enumerate_from 0 (map f xs))) (g (n, f x)) none here

-- the first that comes of the next one is the first of all, where nothing comes of those before
pub first_next : {Y Z : Type 0} (g : ℕ × Y → List Z) (n : ℕ) (xs : List Y) (x : Y) (rest : List Y) (z : Z) → flat_map g (enumerate_from n xs) ≡ []
    → slice_get (g (n + length xs, x)) 0 ≡ Some z → slice_get (flat_map g (enumerate_from n (xs ++ x ∷ rest))) 0 ≡ Some z
first_next {Y} {Z} g n [] x rest z none found =
    let e : n + 0 ≡ n = omega arith in
    append_left (g (n, x)) (flat_map g (enumerate_from (n + 1) rest)) 0 z (ap (λ (k : ℕ). slice_get (g (k, x)) 0) (sym e) ∙ found)
first_next {Y} {Z} g n (y ∷ xs) x rest z none found =
    let here : g (n, y) ≡ [] = nothing_first (g (n, y)) (flat_map g (enumerate_from (n + 1) xs)) none in
    let e : n + 1 + length xs ≡ n + suc (length xs) = omega arith in
    ap (λ (zs : List Z). slice_get (zs ++ flat_map g (enumerate_from (n + 1) (xs ++ x ∷ rest))) 0) here
    ∙ first_next g (n + 1) xs x rest z (nothing_second (g (n, y)) (flat_map g (enumerate_from (n + 1) xs)) none) (ap (λ (k : ℕ). slice_get (g (k, x)) 0) e ∙ found)

-- where nothing comes of all, nothing comes of each
pub none_of : {Y Z : Type 0} (g : Y → List Z) (ys : List Y) (k : ℕ) (y : Y) → flat_map g ys ≡ [] → slice_get ys k ≡ Some y → g y ≡ []
none_of g [] k y none at = absurd (cc)
none_of g (z ∷ ys) zero y none at =
    let same : z ≡ y = cc in
    ap g (sym same) ∙ nothing_first (g z) (flat_map g ys) none
none_of g (z ∷ ys) (suc k) y none at = none_of g ys k y (nothing_second (g z) (flat_map g ys) none) at
