-- Names that are numbered as they come: each stands under its number, and none stands twice.
use Rattle.std.proofs.Common.{◌≡◌, ℕ, zero, suc, ◌+◌, ◌<◌, ◌≤◌, Bool, true, false, cond, List, [], ◌∷◌, ◌++◌, length, map, Some, get_or, Bor, refl, sym, ap, ◌∙◌, inl, inr, ◌⊎◌, arith, length-append}
use Rattle.std.specs.List.{list_any, slice_get}
use Rattle.std.specs.Str.{bytes_eq}
use Rattle.std.proofs.lemmas.Bool.{true≢false}
use Rattle.std.proofs.lemmas.List.{map-append}
use Rattle.std.proofs.lemmas.List.Folds.{list_any_at}
use Rattle.std.proofs.lemmas.Option.{get_or_from_slice_get, slice_get_within}
use Rattle.std.proofs.lemmas.Slice.Eq.{bytes_eq-Decides}
use Rattle.indexmap.specs.IndexSet.{insert_key}
use Rattle.lk_link.specs.Inputs.{Input}
use Rattle.lk_link.proofs.Elements.{append_at, append_left, map_at, map_in}
use Rattle.lk_ranks.specs.Ranks.{AreDistinct, AreNumbered, bytes_of}

-- whether lent names have the same bytes
abbrev pub name_eq : Bor (List ℕ) → Bor (List ℕ) → Bool
name_eq a b = bytes_eq a.now b.now

abbrev Names : Type 0
Names = List (Bor (List ℕ))

-- an element of a list with one more at its end
pushed_at : {X : Type 0} (xs : List X) (x : X) (k : ℕ) (y : X) → slice_get (xs ++ x ∷ []) k ≡ Some y → (slice_get xs k ≡ Some y) ⊎ ((k ≡ length xs) × (x ≡ y))
pushed_at xs x k y h =
    elim (append_at xs (x ∷ []) k y h) [
      | inl a ↦ inl a
      | inr (zero, place, at) ↦ inr (omega (arith, place), cc)
      | inr (suc j, place, at) ↦ absurd (cc)
    ]

module _ (names : Names) (k : Bor (List ℕ)) where
  -- what was there stays
  name_stays : (i : ℕ) (b : Bor (List ℕ)) → slice_get names i ≡ Some b → slice_get (insert_key name_eq names k) i ≡ Some b
  name_stays i b h =
      elim (list_any (name_eq k) names) as (λ c. slice_get (cond c names (names ++ k ∷ [])) i ≡ Some b) [
        | true ↦ h
        | false ↦ append_left names (k ∷ []) i b h
      ]

  pub one_more : (n : ℕ) → length names ≤ n → length (insert_key name_eq names k) ≤ n + 1
  one_more n few =
      elim (list_any (name_eq k) names) as (λ c. length (cond c names (names ++ k ∷ [])) ≤ n + 1) [
        | true ↦ omega (arith, few)
        | false ↦ omega (arith, few, length-append names (k ∷ []))
      ]

  -- a name that isn't there yet differs from all
  new_name : (i : ℕ) (b : Bor (List ℕ)) → list_any (name_eq k) names ≡ false → slice_get names i ≡ Some b → k.now ≡ b.now → ⊥
  new_name i b none at same =
      let read : get_or names i k ≡ b = get_or_from_slice_get names i b k at in
      let equal : name_eq k (get_or names i k) ≡ true = ap (name_eq k) read ∙ (bytes_eq-Decides k.now b.now).1 same in
      true≢false (sym (list_any_at (name_eq k) names i k (slice_get_within names i b at) equal) ∙ none)

  pub still_distinct : AreDistinct (map bytes_of names) → AreDistinct (map bytes_of (insert_key name_eq names k))
  still_distinct distinct =
      (elim (list_any (name_eq k) names) as (λ c. list_any (name_eq k) names ≡ c → AreDistinct (map bytes_of (cond c names (names ++ k ∷ [])))) [
        | true ↦ λ is. distinct
        | false ↦ λ is i j name at_i at_j.
            let a = map_at bytes_of (names ++ k ∷ []) i name at_i in
            let b = map_at bytes_of (names ++ k ∷ []) j name at_j in
            by is i j name a.0 b.0 a.2 b.2 (pushed_at names k i a.0 a.1) (pushed_at names k j b.0 b.1)
      ]) refl
    where
      by : list_any (name_eq k) names ≡ false → (i j : ℕ) (name : List ℕ) (a b : Bor (List ℕ)) → a.now ≡ name → b.now ≡ name
          → ((slice_get names i ≡ Some a) ⊎ ((i ≡ length names) × (k ≡ a))) → ((slice_get names j ≡ Some b) ⊎ ((j ≡ length names) × (k ≡ b))) → i ≡ j
      by none i j name a b is_a is_b (inl p) (inl q) =
          distinct i j name (map_in bytes_of names i a p ∙ ap (λ (n : List ℕ). Some n) is_a) (map_in bytes_of names j b q ∙ ap (λ (n : List ℕ). Some n) is_b)
      by none i j name a b is_a is_b (inl p) (inr q) = absurd (new_name i a none p (ap bytes_of q.1 ∙ is_b ∙ sym is_a))
      by none i j name a b is_a is_b (inr p) (inl q) = absurd (new_name j b none q (ap bytes_of p.1 ∙ is_a ∙ sym is_b))
      by none i j name a b is_a is_b (inr p) (inr q) = omega (arith, p.0, q.0)

-- sections that are numbered stay so among more names
still_numbered : (names more : List (List ℕ)) → ((i : ℕ) (name : List ℕ) → slice_get names i ≡ Some name → slice_get more i ≡ Some name)
    → (numbers : List ℕ) (xs : List Input) → AreNumbered names numbers xs → AreNumbered more numbers xs
still_numbered names more stays [] xs h = h
still_numbered names more stays (n ∷ numbers) [] h = absurd (cc)
still_numbered names more stays (n ∷ numbers) (x ∷ xs) h =
    let first : slice_get names n ≡ Some x.section.name = cc in
    let rest : map (slice_get names) numbers ≡ map (λ y. Some y.section.name) xs = cc in
    ap (λ o. o ∷ map (slice_get more) numbers) (stays n x.section.name first) ∙ ap (λ os. Some x.section.name ∷ os) (still_numbered names more stays numbers xs rest)

pub one_numbered : (names new : Names) (k : Bor (List ℕ)) (numbers : List ℕ) (xs : List Input) (n : ℕ) (x : Input) (b : Bor (List ℕ))
    → AreNumbered (map bytes_of names) numbers xs → new ≡ insert_key name_eq names k
    → slice_get new n ≡ Some b → name_eq k b ≡ true → k.now ≡ x.section.name
    → AreNumbered (map bytes_of new) (numbers ++ n ∷ []) (xs ++ x ∷ [])
one_numbered names new k numbers xs n x b h grown at equal is =
    let all : List (List ℕ) = map bytes_of new in
    let stays : (i : ℕ) (name : List ℕ) → slice_get (map bytes_of names) i ≡ Some name → slice_get all i ≡ Some name
    = λ i name there.
    let from = map_at bytes_of names i name there in
    let still : slice_get new i ≡ Some from.0 = ap (λ (ks : Names). slice_get ks i) grown ∙ name_stays names k i from.0 from.1 in
    map_in bytes_of new i from.0 still ∙ ap (λ (m : List ℕ). Some m) from.2 in
    let named : b.now ≡ x.section.name = sym ((bytes_eq-Decides k.now b.now).0 equal) ∙ is in
    let one : slice_get all n ≡ Some x.section.name = map_in bytes_of new n b at ∙ ap (λ (m : List ℕ). Some m) named in
    map-append (slice_get all) numbers (n ∷ [])
    ∙ ap (λ os. os ++ slice_get all n ∷ []) (still_numbered (map bytes_of names) all stays numbers xs h)
    ∙ ap (λ o. map (λ (y : Input). Some y.section.name) xs ++ o ∷ []) one
    ∙ sym (map-append (λ (y : Input). Some y.section.name) xs (x ∷ []))

-- so each number is that of a name
pub number_within : (names : List (List ℕ)) (numbers : List ℕ) (xs : List Input) (k n : ℕ) → AreNumbered names numbers xs → slice_get numbers k ≡ Some n → n < length names
number_within names numbers xs k n h there =
    let named : slice_get (map (λ (x : Input). Some x.section.name) xs) k ≡ Some (slice_get names n)
    = ap (λ os. slice_get os k) (sym h) ∙ map_in (slice_get names) numbers k n there in
    let from = map_at (λ (x : Input). Some x.section.name) xs k (slice_get names n) named in
    slice_get_within names n from.0.section.name (sym from.2)
