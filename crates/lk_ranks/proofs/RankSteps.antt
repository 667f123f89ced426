-- Lists that grow by one element in each turn, and elements read from them.
use Rattle.std.proofs.Common.{◌≡◌, ℕ, zero, suc, ◌+◌, ◌<◌, List, [], ◌∷◌, ◌++◌, length, map, take, get_or, sym, ap, ◌∙◌, arith, zero-add}
use Rattle.std.specs.List.{enumerate_from}
use Rattle.std.proofs.lemmas.List.{map-append, take_more}
use Rattle.std.proofs.lemmas.Option.{get_or_from_slice_get, slice_get-get_or}

-- an element is read whatever the default
pub any_default : {X : Type 0} (xs : List X) (i : ℕ) (x y : X) → i < length xs → get_or xs i x ≡ get_or xs i y
any_default xs i x y below = sym (get_or_from_slice_get xs i (get_or xs i x) y (slice_get-get_or xs i x below))

-- what is made of the elements so far, and of the next
pub mapped_more : {X Y : Type 0} (f : X → Y) (xs : List X) (i : ℕ) (d : X) → i < length xs → map f (take i xs) ++ f (get_or xs i d) ∷ [] ≡ map f (take (i + 1) xs)
mapped_more f xs i d below =
    sym (map-append f (take i xs) (get_or xs i d ∷ [])) ∙ ap (map f) (sym (take_more xs i d below))

-- elements with their numbers
enumerated_more : {X : Type 0} (n : ℕ) (xs : List X) (i : ℕ) (d : X) → i < length xs → enumerate_from n (take i xs) ++ (n + i, get_or xs i d) ∷ [] ≡ enumerate_from n (take (i + 1) xs)
enumerated_more n [] i d below = absurd (omega (arith, below))
enumerated_more n (x ∷ xs) zero d below = let same : n + 0 ≡ n = omega arith in ap (λ (m : ℕ). (m, x) ∷ []) same
enumerated_more n (x ∷ xs) (suc i) d below =
    let next : n + suc i ≡ n + 1 + i = omega arith in
    let more : suc (i + 1) ≡ suc i + 1 = omega arith in
    ap (λ ys. (n, x) ∷ ys) (ap (λ (m : ℕ). enumerate_from (n + 1) (take i xs) ++ (m, get_or xs i d) ∷ []) next ∙ enumerated_more (n + 1) xs i d (omega (arith, below)))
    ∙ ap (λ (k : ℕ). enumerate_from n (take k (x ∷ xs))) more

pub numbered_more : {X Y : Type 0} (f : ℕ × X → Y) (xs : List X) (i : ℕ) (d : X) → i < length xs
    → map f (enumerate_from 0 (take i xs)) ++ f (i, get_or xs i d) ∷ [] ≡ map f (enumerate_from 0 (take (i + 1) xs))
numbered_more f xs i d below =
    sym (map-append f (enumerate_from 0 (take i xs)) ((i, get_or xs i d) ∷ []))
    ∙ ap (map f) (ap (λ (m : ℕ). enumerate_from 0 (take i xs) ++ (m, get_or xs i d) ∷ []) (sym (zero-add i)) ∙ enumerated_more 0 xs i d below)
