-- Lists that are made from the numbers of other lists' elements.
use Rattle.std.proofs.Common.{◌≡◌, ℕ, zero, suc, ◌+◌, ◌<◌, List, [], ◌∷◌, length, drop, map, refl, ap, ◌∙◌, sym, arith, Some, None, add-zero, zero-add}
use Rattle.std.proofs.lemmas.Option.{slice_get-get_or}
use Rattle.std.specs.List.{enumerate_from, slice_get, slice_index_or}

-- what is made of the elements from k on, numbered from i: the first, and the others
pub map_enumerate_drop : {X Y : Type 0} (f : ℕ → Y) (xs : List X) (i k : ℕ) → k < length xs → map (λ q. f q.0) (enumerate_from i (drop k xs)) ≡ f i ∷ map (λ q. f q.0) (enumerate_from (i + 1) (drop (k + 1) xs))
map_enumerate_drop f [] i k h = absurd (omega arith)
map_enumerate_drop f (x ∷ xs) i zero h = refl
map_enumerate_drop {X} {Y} f (x ∷ xs) i (suc k) h =
    let e : suc (k + 1) ≡ suc k + 1 = omega arith in
    let shown : ℕ → List Y = λ n. f i ∷ map (λ q. f q.0) (enumerate_from (i + 1) (drop n (x ∷ xs))) in
    map_enumerate_drop f xs i k (omega arith) ∙ ap shown e

-- a list with these elements at all places is made of the numbers of another list's elements
pub made_of : {X Y : Type 0} (f : ℕ → X) (xs : List X) (ys : List Y) (i : ℕ) → length xs ≡ length ys → ((p : ℕ) → p < length ys → slice_get xs p ≡ Some (f (i + p))) → xs ≡ map (λ q. f q.0) (enumerate_from i ys)
made_of f [] [] i e h = refl
made_of f [] (y ∷ ys) i e h = absurd (omega (arith, e))
made_of f (x ∷ xs) [] i e h = absurd (omega (arith, e))
made_of {X} {Y} f (x ∷ xs) (y ∷ ys) i e h =
    let here : Some x ≡ Some (f (i + 0)) = h 0 (omega arith) in
    let same : f (i + 0) ≡ f i = ap f (add-zero i) in
    let first : x ≡ f i = cc in
    let rest : xs ≡ map (λ (q : ℕ × Y). f q.0) (enumerate_from (i + 1) ys) =
    made_of f xs ys (i + 1) (omega (arith, e)) (λ p below. h (suc p) (omega arith) ∙ ap (λ (n : ℕ). Some (f n)) (omega arith)) in
    cc

-- the same where the elements are read with a default
pub made_of_or : {X Y : Type 0} (f : ℕ → X) (d : X) (xs : List X) (ys : List Y) → length xs ≡ length ys → ((p : ℕ) → p < length ys → slice_index_or xs p d ≡ f p) → xs ≡ map (λ q. f q.0) (enumerate_from 0 ys)
made_of_or {X} f d xs ys e h = made_of f xs ys 0 e (λ p below. slice_get-get_or xs p d (omega (arith, e)) ∙ ap (λ (x : X). Some x) (h p below ∙ ap f (sym (zero-add p))))

-- an element of what is made of the numbers
pub numbered_at : {X Y Z : Type 0} (g : Y → Z) (h : ℕ → Y) (xs : List X) (o i : ℕ) → i < length xs → slice_get (map g (map (λ q. h q.0) (enumerate_from o xs))) i ≡ Some (g (h (o + i)))
numbered_at g h [] o i below = absurd (omega arith)
numbered_at {X} {Y} {Z} g h (x ∷ xs) o zero below = ap (λ (n : ℕ). Some (g (h n))) (sym (add-zero o))
numbered_at {X} {Y} {Z} g h (x ∷ xs) o (suc i) below = numbered_at g h xs (o + 1) i (omega arith) ∙ ap (λ (n : ℕ). Some (g (h n))) (omega arith)

-- the same, read with a default
pub made_at : {X Y : Type 0} (f : ℕ → Y) (d : Y) (xs : List X) (o i : ℕ) → i < length xs → slice_index_or (map (λ q. f q.0) (enumerate_from o xs)) i d ≡ f (o + i)
made_at f d [] o i below = absurd (omega arith)
made_at {X} {Y} f d (x ∷ xs) o zero below = ap f (sym (add-zero o))
made_at {X} {Y} f d (x ∷ xs) o (suc i) below = made_at f d xs (o + 1) i (omega arith) ∙ ap f (omega arith)

-- as many elements as numbers
pub length-made : {X Y : Type 0} (f : ℕ → Y) (xs : List X) (o : ℕ) → length (map (λ q. f q.0) (enumerate_from o xs)) ≡ length xs
length-made f [] o = refl
length-made f (x ∷ xs) o = ap suc (length-made f xs (o + 1))

-- the same, read with an option
pub made_get : {X Y : Type 0} (f : ℕ → Y) (xs : List X) (i : ℕ) → i < length xs → slice_get (map (λ q. f q.0) (enumerate_from 0 xs)) i ≡ Some (f i)
made_get {X} {Y} f xs i below =
    slice_get-get_or (map (λ (q : ℕ × X). f q.0) (enumerate_from 0 xs)) i (f i) (omega (arith, length-made f xs 0)) ∙ ap (λ (y : Y). Some y) (made_at f (f i) xs 0 i below ∙ ap f (zero-add i))

-- where nothing stands the default is read
pub none_default : {X : Type 0} (xs : List X) (i : ℕ) (d : X) → slice_get xs i ≡ None → slice_index_or xs i d ≡ d
none_default [] i d h = refl
none_default (x ∷ xs) zero d h = absurd (cc)
none_default (x ∷ xs) (suc i) d h = none_default xs i d h
