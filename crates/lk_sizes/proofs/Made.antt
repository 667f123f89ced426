-- Lists that are made for the numbers of another list's elements.
use Rattle.std.proofs.Common.{◌≡◌, ℕ, zero, suc, ◌+◌, ◌-◌, ◌<◌, ◌≤◌, Bool, ◌||◌, cond, List, [], ◌∷◌, ◌++◌, length, map, take, drop, refl, sym, ap, ◌∙◌, arith}
use Rattle.std.proofs.lemmas.List.{length-drop}
use Rattle.std.proofs.lemmas.List.FromFn.{map-range_with_len_more}
use Rattle.std.specs.List.{enumerate_from, filter, list_any, range_with_len, slice_range}

-- what is made of what was made
pub made_map : {X Y Z : Type 0} (g : Y → Z) (f : ℕ → Y) (xs : List X) (o : ℕ) → map g (map (λ q. f q.0) (enumerate_from o xs)) ≡ map (λ q. g (f q.0)) (enumerate_from o xs)
made_map g f [] o = refl
made_map g f (x ∷ xs) o = ap (λ (zs : List _). g (f o) ∷ zs) (made_map g f xs (o + 1))

-- what is made the same way is the same
pub made_same : {X Y : Type 0} (f g : ℕ → Y) (xs : List X) (o : ℕ) → ((p : ℕ) → f p ≡ g p) → map (λ q. f q.0) (enumerate_from o xs) ≡ map (λ q. g q.0) (enumerate_from o xs)
made_same f g [] o h = refl
made_same f g (x ∷ xs) o h = ap (λ y. y ∷ map (λ q. f q.0) (enumerate_from (o + 1) xs)) (h o) ∙ ap (λ (zs : List _). g o ∷ zs) (made_same f g xs (o + 1) h)

made_drop : {X Y : Type 0} (f : ℕ → Y) (xs : List X) (o a : ℕ) → drop a (map (λ q. f q.0) (enumerate_from o xs)) ≡ map (λ q. f q.0) (enumerate_from (o + a) (drop a xs))
made_drop f xs o zero = ap (λ n. map (λ q. f q.0) (enumerate_from n xs)) (omega arith)
made_drop f [] o (suc a) = refl
made_drop f (x ∷ xs) o (suc a) = made_drop f xs (o + 1) a ∙ ap (λ n. map (λ q. f q.0) (enumerate_from n (drop a xs))) (omega arith)

made_take : {X Y : Type 0} (f : ℕ → Y) (xs : List X) (o n : ℕ) → n ≤ length xs → take n (map (λ q. f q.0) (enumerate_from o xs)) ≡ map f (range_with_len o n)
made_take f xs o zero h = refl
made_take f [] o (suc n) h = absurd (omega arith)
made_take f (x ∷ xs) o (suc n) h = ap (λ (zs : List _). f o ∷ zs) (made_take f xs (o + 1) n (omega arith))

-- a range of what was made
pub made_range : {X Y : Type 0} (f : ℕ → Y) (xs : List X) (a b : ℕ) → a ≤ b → b ≤ length xs → slice_range (map (λ q. f q.0) (enumerate_from 0 xs)) a b ≡ map f (range_with_len a (b - a))
made_range f xs a b h k =
    ap (take (b - a)) (made_drop f xs 0 a ∙ ap (λ n. map (λ q. f q.0) (enumerate_from n (drop a xs))) (omega arith))
    ∙ made_take f (drop a xs) a (b - a) (omega (arith, length-drop a xs))

pub any_map : {X Y : Type 0} (p : Y → Bool) (f : X → Y) (xs : List X) → list_any p (map f xs) ≡ list_any (λ x. p (f x)) xs
any_map p f [] = refl
any_map p f (x ∷ xs) = ap (λ b. p (f x) || b) (any_map p f xs)

pub any_same : {X : Type 0} (p q : X → Bool) (xs : List X) → ((x : X) → p x ≡ q x) → list_any p xs ≡ list_any q xs
any_same p q [] h = refl
any_same p q (x ∷ xs) h = ap (λ b. b || list_any p xs) (h x) ∙ ap (λ b. q x || b) (any_same p q xs h)

pub filter_alike : {X : Type 0} (p q : X → Bool) (xs : List X) → ((x : X) → p x ≡ q x) → filter p xs ≡ filter q xs
filter_alike p q [] h = refl
filter_alike p q (x ∷ xs) h = ap (λ b. cond b (x ∷ filter p xs) (filter p xs)) (h x) ∙ ap (λ (zs : List _). cond (q x) (x ∷ zs) zs) (filter_alike p q xs h)

pub map_map : {X Y Z : Type 0} (g : Y → Z) (f : X → Y) (xs : List X) → map g (map f xs) ≡ map (λ x. g (f x)) xs
map_map g f [] = refl
map_map g f (x ∷ xs) = ap (λ (zs : List _). g (f x) ∷ zs) (map_map g f xs)

-- what is made of all numbers
pub made_whole : {X Y : Type 0} (f : ℕ → Y) (xs : List X) (o : ℕ) → map f (range_with_len o (length xs)) ≡ map (λ q. f q.0) (enumerate_from o xs)
made_whole f [] o = refl
made_whole f (x ∷ xs) o =
    let more : length (x ∷ xs) ≡ suc (length xs) = omega arith in
    ap (λ n. map f (range_with_len o n)) more ∙ ap (λ (zs : List _). f o ∷ zs) (made_whole f xs (o + 1))

-- what is made the same way of these numbers is the same
pub made_same_below : {X Y : Type 0} (f g : ℕ → Y) (xs : List X) (o : ℕ) → ((p : ℕ) → p < o + length xs → f p ≡ g p) → map (λ q. f q.0) (enumerate_from o xs) ≡ map (λ q. g q.0) (enumerate_from o xs)
made_same_below f g [] o h = refl
made_same_below f g (x ∷ xs) o h =
    ap (λ y. y ∷ map (λ q. f q.0) (enumerate_from (o + 1) xs)) (h o (omega arith))
    ∙ ap (λ (zs : List _). g o ∷ zs) (made_same_below f g xs (o + 1) (λ p below. h p (omega arith)))

pub map_id : {X : Type 0} (xs : List X) → map (λ x. x) xs ≡ xs
map_id [] = refl
map_id (x ∷ xs) = ap (λ (zs : List _). x ∷ zs) (map_id xs)

-- one more is made
pub one_pushed : {X : Type 0} (f : ℕ → X) (n : ℕ) (old new : List X) (y : X) → new ≡ old ++ y ∷ [] → old ≡ map f (range_with_len 0 n) → y ≡ f n
    → new ≡ map f (range_with_len 0 (n + 1))
one_pushed f n old new y pushed made one =
    pushed
    ∙ ap (λ (zs : List _). zs ++ y ∷ []) made
    ∙ ap (λ z. map f (range_with_len 0 n) ++ z ∷ []) one
    ∙ sym (map-range_with_len_more f 0 n n (omega arith))
