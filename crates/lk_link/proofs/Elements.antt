-- Which elements stand where in lists that are made from others.
use Rattle.std.proofs.Common.{◌≡◌, ℕ, zero, suc, ◌+◌, ◌<◌, Bool, true, false, cond, List, [], ◌∷◌, ◌++◌, length, map, take, Some, refl, sym, ap, ◌∙◌, subst, inl, inr, ◌⊎◌, arith, length-append}
use Rattle.std.specs.List.{Contains, enumerate_from, filter, flat_map, slice_get}
use Rattle.std.proofs.lemmas.Option.{slice_get-get_or, slice_get_within, get_or_from_slice_get}

-- an element is contained where it stands at some index
pub contains_at : {X : Type 0} (xs : List X) (k : ℕ) (x : X) → slice_get xs k ≡ Some x → Contains xs x
contains_at xs k x h = (k, slice_get_within xs k x h, get_or_from_slice_get xs k x x h)

pub at_contained : {X : Type 0} (xs : List X) (x : X) → Contains xs x → (k : ℕ) × (slice_get xs k ≡ Some x)
at_contained xs x h = (h.0, slice_get-get_or xs h.0 x h.1 ∙ ap Some h.2)

-- there is an element at each index
pub at_index : {X : Type 0} (xs : List X) (i : ℕ) → i < length xs → (x : X) × (slice_get xs i ≡ Some x)
at_index [] i h = absurd (omega arith)
at_index (x ∷ xs) zero h = (x, refl)
at_index (x ∷ xs) (suc i) h = at_index xs i (omega arith)

-- ---- two lists

-- an element stands in the first or in the second
pub append_at : {X : Type 0} (xs ys : List X) (k : ℕ) (x : X) → slice_get (xs ++ ys) k ≡ Some x
    → (slice_get xs k ≡ Some x) ⊎ ((j : ℕ) × (k ≡ length xs + j) × (slice_get ys j ≡ Some x))
append_at [] ys k x h = inr (k, omega arith, h)
append_at (y ∷ xs) ys zero x h = inl h
append_at (y ∷ xs) ys (suc k) x h = elim (append_at xs ys k x h) [ inl a ↦ inl a | inr b ↦ inr (b.0, omega (arith, b.1), b.2) ]

pub append_left : {X : Type 0} (xs ys : List X) (k : ℕ) (x : X) → slice_get xs k ≡ Some x → slice_get (xs ++ ys) k ≡ Some x
append_left [] ys k x h = absurd (cc)
append_left (y ∷ xs) ys zero x h = h
append_left (y ∷ xs) ys (suc k) x h = append_left xs ys k x h

pub append_right : {X : Type 0} (xs ys : List X) (j k : ℕ) (x : X) → k ≡ length xs + j → slice_get ys j ≡ Some x → slice_get (xs ++ ys) k ≡ Some x
append_right [] ys j k x e h = let same : j ≡ k = omega (arith, e) in subst (λ n. slice_get ys n ≡ Some x) same h
append_right (y ∷ xs) ys j zero x e h = absurd (omega (arith, e))
append_right (y ∷ xs) ys j (suc k) x e h = append_right xs ys j k x (omega (arith, e)) h

-- ---- what is made of a list

-- an element of what is made of each
pub map_at : {X Y : Type 0} (f : X → Y) (xs : List X) (k : ℕ) (y : Y) → slice_get (map f xs) k ≡ Some y → (x : X) × (slice_get xs k ≡ Some x) × (f x ≡ y)
map_at f [] k y h = absurd (cc)
map_at f (x ∷ xs) zero y h = (x, refl, cc)
map_at f (x ∷ xs) (suc k) y h = map_at f xs k y h

pub map_in : {X Y : Type 0} (f : X → Y) (xs : List X) (k : ℕ) (x : X) → slice_get xs k ≡ Some x → slice_get (map f xs) k ≡ Some (f x)
map_in f [] k x h = absurd (cc)
map_in f (y ∷ xs) zero x h = let same : y ≡ x = cc in ap (λ z. Some (f z)) same
map_in f (y ∷ xs) (suc k) x h = map_in f xs k x h

-- a numbered element stands under its number
pub numbered_at : {X : Type 0} (o : ℕ) (xs : List X) (k : ℕ) (q : ℕ × X) → slice_get (enumerate_from o xs) k ≡ Some q → (q.0 ≡ o + k) × (slice_get xs k ≡ Some q.1)
numbered_at o [] k q h = absurd (cc)
numbered_at {X} o (x ∷ xs) zero q h =
    let pair : ℕ × X = (o, x) in
    let same : pair ≡ q = cc in
    (ap (λ (p : ℕ × X). p.0) (sym same) ∙ omega arith, ap (λ (p : ℕ × X). Some p.1) same)
numbered_at o (x ∷ xs) (suc k) q h =
    let r = numbered_at (o + 1) xs k q h in
    (omega (arith, r.0), r.1)

filter_step : {X : Type 0} (p : X → Bool) (y : X) (xs : List X) (x : X) (b : Bool) → p y ≡ b
    → ((k : ℕ) → slice_get (filter p xs) k ≡ Some x → (j : ℕ) × (slice_get xs j ≡ Some x) × (p x ≡ true))
    → (k : ℕ) → slice_get (cond b (y ∷ filter p xs) (filter p xs)) k ≡ Some x → (j : ℕ) × (slice_get (y ∷ xs) j ≡ Some x) × (p x ≡ true)
filter_step p y xs x true e rest zero h = let same : y ≡ x = cc in (0, h, ap p (sym same) ∙ e)
filter_step p y xs x true e rest (suc k) h = let r = rest k h in (suc r.0, r.1, r.2)
filter_step p y xs x false e rest k h = let r = rest k h in (suc r.0, r.1, r.2)

-- an element that is left passes, and stood there before
pub filter_at : {X : Type 0} (p : X → Bool) (xs : List X) (k : ℕ) (x : X) → slice_get (filter p xs) k ≡ Some x → (j : ℕ) × (slice_get xs j ≡ Some x) × (p x ≡ true)
filter_at p [] k x h = absurd (cc)
filter_at p (y ∷ xs) k x h = filter_step p y xs x (p y) refl (λ i. filter_at p xs i x) k h

filter_more : {X : Type 0} (p : X → Bool) (y : X) (ys : List X) (x : X) (b : Bool) (k : ℕ) → slice_get ys k ≡ Some x → (i : ℕ) × (slice_get (cond b (y ∷ ys) ys) i ≡ Some x)
filter_more p y ys x true k h = (suc k, h)
filter_more p y ys x false k h = (k, h)

-- and the other way round
pub filter_in : {X : Type 0} (p : X → Bool) (xs : List X) (j : ℕ) (x : X) → slice_get xs j ≡ Some x → p x ≡ true → (k : ℕ) × (slice_get (filter p xs) k ≡ Some x)
filter_in p [] j x h e = absurd (cc)
filter_in p (y ∷ xs) zero x h e =
    let same : y ≡ x = cc in
    (0, ap (λ b. slice_get (cond b (y ∷ filter p xs) (filter p xs)) 0) (ap p same ∙ e) ∙ h)
filter_in p (y ∷ xs) (suc j) x h e =
    let r = filter_in p xs j x h e in
    filter_more p y (filter p xs) x (p y) r.0 r.1

-- where an element of lists that follow each other comes from
pub record IsFlatMapAt {X Y : Type 0} (f : X → List Y) (xs : List X) (k : ℕ) (y : Y) : Type 0 where
  pub from : X
  pub outer : ℕ
  pub inner : ℕ
  pub there : slice_get xs outer ≡ Some from
  pub gives : slice_get (f from) inner ≡ Some y
  pub place : k ≡ length (flat_map f (take outer xs)) + inner

pub flat_map_at : {X Y : Type 0} (f : X → List Y) (xs : List X) (k : ℕ) (y : Y) → slice_get (flat_map f xs) k ≡ Some y → IsFlatMapAt f xs k y
flat_map_at f [] k y h = absurd (cc)
flat_map_at f (x ∷ xs) k y h = elim (append_at (f x) (flat_map f xs) k y h) [
  | inl a ↦ record { from = x; outer = 0; inner = k; there = refl; gives = a; place = omega arith }
  | inr b ↦
      let r = flat_map_at f xs b.0 y b.2 in
      record {
        from = r.from;
        outer = suc r.outer;
        inner = r.inner;
        there = r.there;
        gives = r.gives;
        place = omega (arith, b.1, r.place, length-append (f x) (flat_map f (take r.outer xs)));
      }
]

-- and the other way round
pub flat_map_in : {X Y : Type 0} (f : X → List Y) (xs : List X) (i j : ℕ) (x : X) (y : Y) → slice_get xs i ≡ Some x → slice_get (f x) j ≡ Some y → (k : ℕ) × (slice_get (flat_map f xs) k ≡ Some y)
flat_map_in f [] i j x y h g = absurd (cc)
flat_map_in f (z ∷ xs) zero j x y h g =
    let same : z ≡ x = cc in
    (j, append_left (f z) (flat_map f xs) j y (ap (λ w. slice_get (f w) j) same ∙ g))
flat_map_in f (z ∷ xs) (suc i) j x y h g =
    let r = flat_map_in f xs i j x y h g in
    (length (f z) + r.0, append_right (f z) (flat_map f xs) r.0 (length (f z) + r.0) y refl r.1)
