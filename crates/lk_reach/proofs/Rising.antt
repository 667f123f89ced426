-- Lists in which each element stands so to each later one, and that those which hold the same are one.
use Rattle.std.proofs.Common.{◌≡◌, ℕ, zero, suc, ◌<◌, Bool, true, false, if◌then◌else◌, get_or, List, [], ◌∷◌, ◌++◌, AllPairs, Contains, Option, Some, None, refl, sym, ◌∙◌, subst, inl, inr, ◌⊎◌, ◌↔◌, arith}
use Rattle.std.specs.List.{cons_option, filter_map, flat_map, slice_get}
use Rattle.std.proofs.lemmas.Option.{slice_get-get_or, slice_get_within}
use Rattle.lk_link.proofs.Elements.{append_at, at_contained, contains_at, flat_map_at}

-- ---- lists of what there may be

by_option : {Y : Type 0} (o : Option Y) (ys : List Y) (k : ℕ) (y : Y) → slice_get (cons_option o ys) k ≡ Some y → (o ≡ Some y) ⊎ ((j : ℕ) × (slice_get ys j ≡ Some y))
by_option None ys k y h = inr (k, h)
by_option (Some z) ys zero y h = inl h
by_option (Some z) ys (suc k) y h = inr (k, h)

-- where an element of a list of what there may be comes from
pub filter_map_at : {X Y : Type 0} (f : X → Option Y) (xs : List X) (k : ℕ) (y : Y) → slice_get (filter_map f xs) k ≡ Some y → (j : ℕ) × (x : X) × (slice_get xs j ≡ Some x) × (f x ≡ Some y)
filter_map_at f [] k y h = absurd (cc)
filter_map_at f (x ∷ xs) k y h = elim (by_option (f x) (filter_map f xs) k y h) [
  | inl own ↦ (0, x, refl, own)
  | inr rest ↦ let r = filter_map_at f xs rest.0 y rest.1 in (suc r.0, r.1, r.2, r.3)
]

-- ---- lists in which each element stands so to each later one

abbrev pub Rises : {X : Type 0} → (X → X → Type 0) → List X → Type 0
Rises {X} R xs = (i j : ℕ) (a b : X) → i < j → slice_get xs i ≡ Some a → slice_get xs j ≡ Some b → R a b

pub rises_nil : {X : Type 0} (R : X → X → Type 0) → Rises R []
rises_nil R i j a b lt p q = absurd (cc)

pub rises_one : {X : Type 0} (R : X → X → Type 0) (x : X) → Rises R (x ∷ [])
rises_one R x i j a b lt p q = absurd (omega (arith, lt, slice_get_within (x ∷ []) j b q))

pub rises_append : {X : Type 0} (R : X → X → Type 0) (xs ys : List X) → Rises R xs → Rises R ys
    → ((i j : ℕ) (a b : X) → slice_get xs i ≡ Some a → slice_get ys j ≡ Some b → R a b) → Rises R (xs ++ ys)
rises_append R xs ys first second across i j a b lt p q = elim (append_at xs ys i a p) [
  | inl p_left ↦ elim (append_at xs ys j b q) [
    | inl q_left ↦ first i j a b lt p_left q_left
    | inr q_right ↦ across i q_right.0 a b p_left q_right.2
  ]
  | inr p_right ↦ elim (append_at xs ys j b q) [
    | inl q_left ↦ absurd (omega (arith, lt, p_right.1, slice_get_within xs j b q_left))
    | inr q_right ↦ second p_right.0 q_right.0 a b (omega (arith, lt, p_right.1, q_right.1)) p_right.2 q_right.2
  ]
]

pub rises_flat : {X Y : Type 0} (R : Y → Y → Type 0) (f : X → List Y) (xs : List X) → ((i : ℕ) (x : X) → slice_get xs i ≡ Some x → Rises R (f x))
    → ((i j : ℕ) (x y : X) → i < j → slice_get xs i ≡ Some x → slice_get xs j ≡ Some y → (m n : ℕ) (a b : Y) → slice_get (f x) m ≡ Some a → slice_get (f y) n ≡ Some b → R a b)
    → Rises R (flat_map f xs)
rises_flat R f [] own across = rises_nil R
rises_flat R f (x ∷ xs) own across =
    rises_append R (f x) (flat_map f xs) (own 0 x refl) (rises_flat R f xs (λ i. own (suc i)) (λ i j y z lt. across (suc i) (suc j) y z (omega (arith, lt)))) (λ i j a b p q.
    let at = flat_map_at f xs j b q in
    across 0 (suc at.outer) x at.from (omega arith) refl at.there i at.inner a b p at.gives)

rises_option : {X : Type 0} (R : X → X → Type 0) (o : Option X) (xs : List X) → Rises R xs → ((j : ℕ) (a b : X) → o ≡ Some a → slice_get xs j ≡ Some b → R a b) → (i j : ℕ) (a b : X)
    → i < j → slice_get (cons_option o xs) i ≡ Some a → slice_get (cons_option o xs) j ≡ Some b → R a b
rises_option R None xs rest first i j a b lt p q = rest i j a b lt p q
rises_option R (Some x) xs rest first zero zero a b lt p q = absurd (omega (arith, lt))
rises_option R (Some x) xs rest first zero (suc j) a b lt p q = first j a b p q
rises_option R (Some x) xs rest first (suc i) zero a b lt p q = absurd (omega (arith, lt))
rises_option R (Some x) xs rest first (suc i) (suc j) a b lt p q = rest i j a b (omega (arith, lt)) p q

pub rises_filtered : {X Y : Type 0} (R : Y → Y → Type 0) (f : X → Option Y) (xs : List X)
    → ((i j : ℕ) (x y : X) (a b : Y) → i < j → slice_get xs i ≡ Some x → slice_get xs j ≡ Some y → f x ≡ Some a → f y ≡ Some b → R a b) → Rises R (filter_map f xs)
rises_filtered R f [] across = rises_nil R
rises_filtered R f (x ∷ xs) across =
    rises_option R (f x) (filter_map f xs) (rises_filtered R f xs (λ i j y z a b lt. across (suc i) (suc j) y z a b (omega (arith, lt)))) (λ j a b p q.
    let at = filter_map_at f xs j b q in
    across 0 (suc at.0) x at.1 a b (omega arith) refl at.2 p at.3)

pub rises_if : {X : Type 0} (R : X → X → Type 0) (b : Bool) (xs : List X) → Rises R xs → Rises R (if b then xs else [])
rises_if R true xs h = h
rises_if R false xs h = rises_nil R

pub pairs_of : {X : Type 0} (R : X → X → Type 0) (xs : List X) → Rises R xs → AllPairs R xs
pairs_of R xs h i j d lt within =
    h i j (get_or xs i d) (get_or xs j d) lt (slice_get-get_or xs i d (omega (arith, lt, within))) (slice_get-get_or xs j d within)

-- ---- lists in an order that hold the same are one

-- what stands in a list with a first element
first_or_later : {X : Type 0} (x : X) (xs : List X) (a : X) (k : ℕ) → slice_get (x ∷ xs) k ≡ Some a → (x ≡ a) ⊎ Contains xs a
first_or_later x xs a zero h = let same : x ≡ a = cc in inl same
first_or_later x xs a (suc k) h = inr (contains_at xs k a h)

among : {X : Type 0} (x : X) (xs : List X) (a : X) → Contains (x ∷ xs) a → (x ≡ a) ⊎ Contains xs a
among x xs a h = let at = at_contained (x ∷ xs) a h in first_or_later x xs a at.0 at.1

first_among : {X : Type 0} (x : X) (xs : List X) → Contains (x ∷ xs) x
first_among x xs = contains_at (x ∷ xs) 0 x refl

later_among : {X : Type 0} (x : X) (xs : List X) (a : X) → Contains xs a → Contains (x ∷ xs) a
later_among x xs a h = let at = at_contained xs a h in contains_at (x ∷ xs) (suc at.0) a at.1

-- the first stands so to each other one
first_to : {X : Type 0} (R : X → X → Type 0) (x : X) (xs : List X) (a : X) → AllPairs R (x ∷ xs) → Contains xs a → R x a
first_to R x xs a h c = subst (R x) c.2 (h 0 (suc c.0) a (omega arith) (omega (arith, c.1)))

others : {X : Type 0} (R : X → X → Type 0) (x : X) (xs : List X) → AllPairs R (x ∷ xs) → AllPairs R xs
others R x xs h i j d lt within = h (suc i) (suc j) d (omega (arith, lt)) (omega (arith, within))

-- no element stands so to itself, and it goes on
pub record IsOrder {X : Type 0} (R : X → X → Type 0) : Type 0 where
  pub not_itself : (x : X) → R x x → ⊥
  pub goes_on : (x y z : X) → R x y → R y z → R x z

same_first : {X : Type 0} (R : X → X → Type 0) → IsOrder R → (x y : X) (xs ys : List X) → AllPairs R (x ∷ xs) → AllPairs R (y ∷ ys) → Contains (y ∷ ys) x → Contains (x ∷ xs) y → x ≡ y
same_first R order x y xs ys s t in_second in_first = elim (among y ys x in_second) [
  | inl same ↦ sym same
  | inr later ↦ elim (among x xs y in_first) [
    | inl same ↦ same
    | inr behind ↦ absurd (order.not_itself x (order.goes_on x y x (first_to R x xs y s behind) (first_to R y ys x t later)))
  ]
]

stays_among : {X : Type 0} (R : X → X → Type 0) → IsOrder R → (x y : X) (xs ys : List X) (a : X) → x ≡ y → AllPairs R (x ∷ xs) → (Contains (x ∷ xs) a → Contains (y ∷ ys) a) → Contains xs a → Contains ys a
stays_among R order x y xs ys a same s goes h = elim (among y ys a (goes (later_among x xs a h))) [
  | inl one ↦ absurd (order.not_itself x (subst (R x) (sym (same ∙ one)) (first_to R x xs a s h)))
  | inr later ↦ later
]

-- of two lists in an order that hold the same there is one
pub same_order : {X : Type 0} (R : X → X → Type 0) → IsOrder R → (xs ys : List X) → AllPairs R xs → AllPairs R ys → ((a : X) → Contains xs a ↔ Contains ys a) → xs ≡ ys
same_order R order [] [] s t same = refl
same_order R order [] (y ∷ ys) s t same = let c = (same y).1 (first_among y ys) in absurd (omega (arith, c.1))
same_order R order (x ∷ xs) [] s t same = let c = (same x).0 (first_among x xs) in absurd (omega (arith, c.1))
same_order R order (x ∷ xs) (y ∷ ys) s t same =
    let first : x ≡ y = same_first R order x y xs ys s t ((same x).0 (first_among x xs)) ((same y).1 (first_among y ys)) in
    let rest : xs ≡ ys
    = same_order R order xs ys (others R x xs s) (others R y ys t)
    (λ a. (stays_among R order x y xs ys a first s (same a).0, stays_among R order y x ys xs a (sym first) t (same a).1)) in
    cc
