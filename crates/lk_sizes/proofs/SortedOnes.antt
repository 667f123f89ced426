-- Sorted sections stand in the order of their names, and in no other.
use Rattle.std.proofs.Common.{◌≡◌, ℕ, zero, suc, ◌+◌, ◌<◌, ◌==◌, Bool, true, false, cond, not, nat_lt, List, [], ◌∷◌, ◌++◌, map, filter, Option, Some, length, get_or, IsPermutation, IsSorted, refl, sym, ap, ◌∙◌, subst, arith}
use Rattle.std.specs.Cmp.{IsTotalOrder}
use Rattle.std.specs.List.{AllByRecursion, slice_get}
use Rattle.std.specs.Ordering.{is_lt, nat_cmp, ordering_reverse, ordering_then}
use Rattle.std.specs.declared.cmp.Ordering.{Ordering}
use Rattle.std.specs.declared.cmp.Ordering.TheVariants.{Less, Equal, Greater}
use Rattle.std.proofs.lemmas.Bool.{eqb-true}
use Rattle.std.proofs.lemmas.Cmp.{nat_cmp_total, nat_list_cmp_total, on_total, then_total, tied_itself}
use Rattle.std.proofs.lemmas.List.Sorted.{Contains-permutation, IsPermutation-append_right, IsPermutation-cons, IsPermutation-filter_both, IsPermutation-map, IsPermutation-middle, IsPermutation-refl, IsPermutation-sym, IsPermutation-trans}
use Rattle.std.proofs.lemmas.Option.{get_or_from_slice_get, slice_get_within}
use Rattle.lk_link.specs.declared.ids.FileId.{FileId}
use Rattle.lk_link.specs.declared.link.LinkInput.{LinkInput}
use Rattle.lk_link.specs.Files.{file_cmp}
use Rattle.lk_link.specs.Inputs.{Input, input_number}
use Rattle.lk_link.proofs.Elements.{at_contained, contains_at, filter_at, filter_in, map_in}
use Rattle.lk_live.specs.declared.live.Live.{Live}
use Rattle.lk_live.specs.Reach.{live_inputs}
use Rattle.lk_sizes.specs.Sorted.{NoOtherOrder, SortedStandByName, before, by_name, insert_by_name, name_cmp, sorted_inputs, sorted_ones}
use Rattle.lk_ranks.proofs.Rising.{NoneTwice}
use Rattle.lk_sizes.proofs.Keys.{all_keys, some_once}
use Rattle.lk_sizes.proofs.LiveByFiles.{unsorted_ones}
use Rattle.lk_sizes.proofs.LiveNumbers.{live_once, number_in}
use Rattle.lk_sizes.proofs.LiveOnes.{Pairwise}
use Rattle.lk_ranks.proofs.Tallies.{once_moved}

-- ---- the same ones

inserted : (x : Input) (ys : List Input) → IsPermutation (x ∷ ys) (insert_by_name x ys)
unfolding insert_by_name
inserted x [] = IsPermutation-refl (x ∷ [])
inserted x (y ∷ ys) =
    elim (before x y) as (λ b. IsPermutation (x ∷ y ∷ ys) (cond b (x ∷ y ∷ ys) (y ∷ insert_by_name x ys))) [
      | true ↦ IsPermutation-refl (x ∷ y ∷ ys)
      | false ↦ IsPermutation-trans (x ∷ y ∷ ys) (y ∷ x ∷ ys) (y ∷ insert_by_name x ys)
          (IsPermutation-sym (y ∷ x ∷ ys) (x ∷ y ∷ ys) (IsPermutation-middle (y ∷ []) x ys))
          (IsPermutation-cons y (x ∷ ys) (insert_by_name x ys) (inserted x ys))
    ]

pub by_name_moves : (xs : List Input) → IsPermutation xs (by_name xs)
unfolding by_name
by_name_moves [] = IsPermutation-refl []
by_name_moves (x ∷ xs) =
    IsPermutation-trans (x ∷ xs) (x ∷ by_name xs) (insert_by_name x (by_name xs)) (IsPermutation-cons x xs (by_name xs) (by_name_moves xs)) (inserted x (by_name xs))

-- ---- the order

pub file_total : IsTotalOrder file_cmp
file_total = then_total (on_total (λ (f : FileId). f.group) nat_cmp_total) (on_total (λ (f : FileId). f.file) nat_cmp_total)

pub name_total : IsTotalOrder name_cmp
name_total =
    then_total (on_total (λ (x : Input). x.section.name) nat_list_cmp_total)
    (then_total (on_total (λ (x : Input). x.file) file_total) (on_total (λ (x : Input). x.index) nat_cmp_total))

pub is_less : (o : Ordering) → is_lt o ≡ true → o ≡ Less
is_less Less h = refl
is_less Equal h = absurd (cc)
is_less Greater h = absurd (cc)

nat_equal : (m n : ℕ) → nat_cmp m n ≡ Equal → m ≡ n
nat_equal m n h =
    (elim (nat_lt m n) as (λ b. cond b Less (cond (m == n) Equal Greater) ≡ Equal → m ≡ n) [
      | true ↦ λ is. absurd (cc)
      | false ↦ elim (m == n) as (λ c. (m == n) ≡ c → cond c Equal Greater ≡ Equal → m ≡ n) [
        | true ↦ λ same is. eqb-true m n same
        | false ↦ λ same is. absurd (cc)
      ] refl
    ]) h

then_equal : (a b : Ordering) → ordering_then a b ≡ Equal → (a ≡ Equal) × (b ≡ Equal)
then_equal Less b h = absurd (cc)
then_equal Equal b h = (refl, h)
then_equal Greater b h = absurd (cc)

-- two that compare as equal have the same number
equal_number : (link : LinkInput) (x y : Input) → name_cmp x y ≡ Equal → number_in link x ≡ number_in link y
equal_number link x y h =
    let behind = (then_equal _ _ h).1 in
    let place = then_equal _ _ behind in
    let file = then_equal _ _ place.0 in
    let group : x.file.group ≡ y.file.group = nat_equal x.file.group y.file.group file.0 in
    let number : x.file.file ≡ y.file.file = nat_equal x.file.file y.file.file file.1 in
    let index : x.index ≡ y.index = nat_equal x.index y.index place.1 in
    let made : ℕ → ℕ → FileId = λ g n. record { group = g; file = n } in
    let id : x.file ≡ y.file = ap (λ (g : ℕ). made g x.file.file) group ∙ ap (made y.file.group) number in
    ap (λ (i : FileId). input_number link.groups i x.index) id ∙ ap (input_number link.groups y.file) index

-- one that has another number stands before or behind
one_first : (link : LinkInput) (x y : Input) → (number_in link x ≡ number_in link y → ⊥) → before x y ≡ false → before y x ≡ true
one_first link x y other not_before = by (name_cmp x y) refl not_before
  where
    by : (o : Ordering) → name_cmp x y ≡ o → is_lt o ≡ false → before y x ≡ true
    by Less is h = absurd (cc)
    by Equal is h = absurd (other (equal_number link x y is))
    by Greater is h = ap is_lt (name_total.antisymm y x ∙ ap ordering_reverse is)

-- ---- neighbours, and any two

abbrev Before : Input → Input → Type 0
Before x y = name_cmp x y ≡ Less

all_passed : {X : Type 0} (P Q : X → Type 0) (xs : List X) → ((x : X) → P x → Q x) → AllByRecursion P xs → AllByRecursion Q xs
all_passed P Q [] pass h = tt
all_passed P Q (x ∷ xs) pass h = (pass x h.0, all_passed P Q xs pass h.1)

pub all_at : {X : Type 0} (P : X → Type 0) (xs : List X) (k : ℕ) (x : X) → AllByRecursion P xs → slice_get xs k ≡ Some x → P x
all_at P [] k x h there = absurd (cc)
all_at P (y ∷ xs) zero x h there = let same : y ≡ x = cc in subst P same h.0
all_at P (y ∷ xs) (suc k) x h there = all_at P xs k x h.1 there

abbrev Rises : List Input → Type 0
Rises xs = (k : ℕ) (x y : Input) → slice_get xs k ≡ Some x → slice_get xs (suc k) ≡ Some y → before x y ≡ true

plus_one : (k : ℕ) → suc k ≡ k + 1
plus_one k = omega arith

far : (xs : List Input) → Rises xs → Pairwise Before xs
far [] h = tt
far (x ∷ []) h = (tt, tt)
far (x ∷ y ∷ ys) h =
    let first : Before x y = is_less (name_cmp x y) (h 0 x y refl refl) in
    let rest : Pairwise Before (y ∷ ys) = far (y ∷ ys) (λ k a b at next. h (suc k) a b at next) in
    ((first, all_passed (Before y) (Before x) ys (λ z later. name_total.trans x y z first later) rest.0), rest)

near : (xs : List Input) → Pairwise Before xs → Rises xs
near [] h k x y at next = absurd (cc)
near (z ∷ xs) h zero x y at next =
    let same : z ≡ x = cc in
    ap is_lt (subst (λ (w : Input). name_cmp w y ≡ Less) same (all_at (Before z) xs 0 y h.0 next))
near (z ∷ xs) h (suc k) x y at next = near xs h.1 k x y at next

-- ---- the list rises

-- the numbers of none of some is this one's
abbrev NotAmong : LinkInput → Input → List Input → Type 0
NotAmong link x xs = AllByRecursion (λ m. m ≡ number_in link x → ⊥) (map (number_in link) xs)

all_put : (P : Input → Type 0) (x : Input) (ys : List Input) → P x → AllByRecursion P ys → AllByRecursion P (insert_by_name x ys)
unfolding insert_by_name
all_put P x [] h i = (h, tt)
all_put P x (y ∷ ys) h i =
    elim (before x y) as (λ b. AllByRecursion P (cond b (x ∷ y ∷ ys) (y ∷ insert_by_name x ys))) [
      | true ↦ (h, i)
      | false ↦ (i.0, all_put P x ys h i.1)
    ]

put_rises : (link : LinkInput) (x : Input) (ys : List Input) → NotAmong link x ys → Pairwise Before ys → Pairwise Before (insert_by_name x ys)
unfolding insert_by_name
put_rises link x [] other h = (tt, tt)
put_rises link x (y ∷ ys) other h =
    (elim (before x y) as (λ b. before x y ≡ b → Pairwise Before (cond b (x ∷ y ∷ ys) (y ∷ insert_by_name x ys))) [
      | true ↦ λ is.
          let first : Before x y = is_less (name_cmp x y) is in
          ((first, all_passed (Before y) (Before x) ys (λ z later. name_total.trans x y z first later) h.0), h)
      | false ↦ λ is.
          let first : Before y x = is_less (name_cmp y x) (one_first link x y (λ same. other.0 (sym same)) is) in
          (all_put (Before y) x ys first h.0, put_rises link x ys other.1 h.1)
    ]) refl

by_name_rises : (link : LinkInput) (xs : List Input) → NoneTwice (map (number_in link) xs) → Pairwise Before (by_name xs)
unfolding by_name
by_name_rises link [] once = tt
by_name_rises link (x ∷ xs) once =
    let moved : NoneTwice (map (number_in link) (x ∷ by_name xs))
    = once_moved (map (number_in link) (x ∷ xs)) (map (number_in link) (x ∷ by_name xs))
    (IsPermutation-map (number_in link) (x ∷ xs) (x ∷ by_name xs) (IsPermutation-cons x xs (by_name xs) (by_name_moves xs))) once in
    put_rises link x (by_name xs) moved.0 (by_name_rises link xs once.1)

-- the number of no sorted section stands twice
pub sorted_once : (link : LinkInput) (live : Live) → NoneTwice (map (number_in link) (sorted_ones link live))
sorted_once link live =
    let key : Input → Option ℕ = λ x. Some (number_in link x) in
    let sorted : Input → Bool = λ x. x.section.sorted in
    let all : List Input = live_inputs link live in
    subst NoneTwice (all_keys (number_in link) (filter sorted all))
    (some_once key sorted all (subst NoneTwice (sym (all_keys (number_in link) all)) (live_once link live)))

pub sorted_stand_by_name : SortedStandByName
sorted_stand_by_name link live = record {
  all = by_name_moves (sorted_ones link live);
  rising = λ k x y at next.
      near (sorted_inputs link live) (by_name_rises link (sorted_ones link live) (sorted_once link live)) k x y at
      (ap (slice_get (sorted_inputs link live)) (plus_one k) ∙ next);
}

-- ---- no other list does

-- each of some is one of others
abbrev IsWithin : List Input → List Input → Type 0
IsWithin xs ys = (k : ℕ) (x : Input) → slice_get xs k ≡ Some x → (j : ℕ) × (slice_get ys j ≡ Some x)

less_not_equal : Less ≡ Equal → ⊥
less_not_equal h = absurd (cc)

not_itself : (x : Input) → Before x x → ⊥
not_itself x h = less_not_equal (sym h ∙ tied_itself name_total x)

-- the rest of two lists that rise and begin alike
rest_within : (x : Input) (xs ys : List Input) → AllByRecursion (Before x) xs → IsWithin (x ∷ xs) (x ∷ ys) → IsWithin xs ys
rest_within x xs ys later within k z there = by (within (suc k) z there)
  where
    by : (j : ℕ) × (slice_get (x ∷ ys) j ≡ Some z) → (j : ℕ) × (slice_get ys j ≡ Some z)
    by (zero, at) =
        let same : x ≡ z = cc in
        absurd (not_itself x (subst (Before x) (sym same) (all_at (Before x) xs k z later there)))
    by (suc j, at) = (j, at)

first_alike : (x y : Input) (xs ys : List Input) → AllByRecursion (Before x) xs → AllByRecursion (Before y) ys
    → (j : ℕ) × (slice_get (y ∷ ys) j ≡ Some x) → (j : ℕ) × (slice_get (x ∷ xs) j ≡ Some y) → x ≡ y
first_alike x y xs ys h i (zero, at) behind = let same : y ≡ x = cc in sym same
first_alike x y xs ys h i (suc j, at) (zero, there) = let same : x ≡ y = cc in same
first_alike x y xs ys h i (suc j, at) (suc k, there) =
    absurd (not_itself x (name_total.trans x y x (all_at (Before x) xs k y h there) (all_at (Before y) ys j x i at)))

none_there : (y : Input) → (j : ℕ) × (slice_get [] j ≡ Some y) → ⊥
none_there y (j, at) = absurd (cc)

pub same_list : (xs ys : List Input) → Pairwise Before xs → Pairwise Before ys → IsWithin xs ys → IsWithin ys xs → xs ≡ ys
same_list [] [] h i there back = refl
same_list [] (y ∷ ys) h i there back = absurd (none_there y (back 0 y refl))
same_list (x ∷ xs) [] h i there back = absurd (none_there x (there 0 x refl))
same_list (x ∷ xs) (y ∷ ys) h i there back =
    let same : x ≡ y = first_alike x y xs ys h.0 i.0 (there 0 x refl) (back 0 y refl) in
    let forth : IsWithin (x ∷ xs) (x ∷ ys) = subst (λ (z : Input). IsWithin (x ∷ xs) (z ∷ ys)) (sym same) there in
    let again : IsWithin (x ∷ ys) (x ∷ xs) = subst (λ (z : Input). IsWithin (z ∷ ys) (x ∷ xs)) (sym same) back in
    let later : AllByRecursion (Before x) ys = subst (λ (z : Input). AllByRecursion (Before z) ys) (sym same) i.0 in
    ap (λ (z : Input). z ∷ xs) same
    ∙ ap (λ (zs : List Input). y ∷ zs) (same_list xs ys h.1 i.1 (rest_within x xs ys h.0 forth) (rest_within x ys xs later again))

within : (xs ys : List Input) → IsPermutation xs ys → IsWithin xs ys
within xs ys moved k x there = at_contained ys x (Contains-permutation xs ys x moved (contains_at xs k x there))

pub no_other_order : NoOtherOrder
no_other_order link live xs is =
    let own : List Input = sorted_inputs link live in
    let all : List Input = sorted_ones link live in
    let moved : IsPermutation xs own = IsPermutation-trans xs all own (IsPermutation-sym all xs is.all) (by_name_moves all) in
    let rises : Rises xs = λ k x y at next. is.rising k x y at (ap (slice_get xs) (sym (plus_one k)) ∙ next) in
    same_list xs own (far xs rises) (by_name_rises link all (sorted_once link live)) (within xs own moved) (within own xs (IsPermutation-sym xs own moved))

-- ---- where sorted sections come from

pub record IsSortedLive (link : LinkInput) (live : Live) (x : Input) : Type 0 where
  pub place : ℕ
  pub there : slice_get (live_inputs link live) place ≡ Some x
  pub sorted : x.section.sorted ≡ true

pub sorted_at : (link : LinkInput) (live : Live) (j : ℕ) (x : Input) → slice_get (sorted_inputs link live) j ≡ Some x → IsSortedLive link live x
sorted_at link live j x at =
    let all : List Input = sorted_ones link live in
    let moved = within (sorted_inputs link live) all (IsPermutation-sym all (sorted_inputs link live) (by_name_moves all)) j x at in
    let from = filter_at (λ (y : Input). y.section.sorted) (live_inputs link live) moved.0 x moved.1 in
    record { place = from.0; there = from.1; sorted = from.2 }

pub sorted_in : (link : LinkInput) (live : Live) (k : ℕ) (x : Input) → slice_get (live_inputs link live) k ≡ Some x → x.section.sorted ≡ true
    → (j : ℕ) × (slice_get (sorted_inputs link live) j ≡ Some x)
sorted_in link live k x at sorted =
    let all : List Input = sorted_ones link live in
    let from = filter_in (λ (y : Input). y.section.sorted) (live_inputs link live) k x at sorted in
    within all (sorted_inputs link live) (by_name_moves all) from.0 x from.1

-- ---- those that stand with their files, and the sorted ones behind them

-- they are all that are live
pub unsorted_and_sorted : (link : LinkInput) (live : Live) → IsPermutation (live_inputs link live) (unsorted_ones link live ++ sorted_inputs link live)
unsorted_and_sorted link live =
    let all : List Input = live_inputs link live in
    let sorted : List Input = sorted_ones link live in
    let unsorted : List Input = unsorted_ones link live in
    IsPermutation-trans all (unsorted ++ sorted) (unsorted ++ by_name sorted)
    (IsPermutation-filter_both (λ (x : Input). not x.section.sorted) (λ (x : Input). x.section.sorted) (λ x. twice x.section.sorted) all)
    (IsPermutation-append_right unsorted sorted (by_name sorted) (by_name_moves sorted))
  where
    twice : (b : Bool) → b ≡ not (not b)
    twice true = refl
    twice false = refl

-- so the number of none stands twice among them
pub parted_once : (link : LinkInput) (live : Live) → NoneTwice (map (number_in link) (unsorted_ones link live ++ sorted_inputs link live))
parted_once link live =
    let all : List Input = live_inputs link live in
    let parted : List Input = unsorted_ones link live ++ sorted_inputs link live in
    once_moved (map (number_in link) all) (map (number_in link) parted) (IsPermutation-map (number_in link) all parted (unsorted_and_sorted link live)) (live_once link live)

-- ---- what a sort gives

next_differs : (ns : List ℕ) (k m n : ℕ) → NoneTwice ns → slice_get ns k ≡ Some m → slice_get ns (suc k) ≡ Some n → n ≡ m → ⊥
next_differs [] k m n once at next same = absurd (cc)
next_differs (i ∷ ns) zero m n once at next same =
    let first : i ≡ m = cc in
    all_at (λ j. j ≡ i → ⊥) ns 0 n once.0 next (same ∙ sym first)
next_differs (i ∷ ns) (suc k) m n once at next same = next_differs ns k m n once.1 at next same

pub in_name_order : (link : LinkInput) (live : Live) (xs : List Input) → IsPermutation (sorted_ones link live) xs → IsSorted name_cmp xs → xs ≡ sorted_inputs link live
in_name_order link live xs all sorted =
    let number : Input → ℕ = number_in link in
    let once : NoneTwice (map number xs) = once_moved (map number (sorted_ones link live)) (map number xs) (IsPermutation-map number (sorted_ones link live) xs all) (sorted_once link live) in
    no_other_order link live xs (record {
      all = all;
      rising = λ k x y at next.
          let inside : k + 1 < length xs = slice_get_within xs (k + 1) y next in
          let behind : before y x ≡ false
          = ap (λ (z : Input). before z x) (sym (get_or_from_slice_get xs (k + 1) y x next))
          ∙ ap (λ (z : Input). before (get_or xs (k + 1) x) z) (sym (get_or_from_slice_get xs k x x at))
          ∙ sorted k x (omega arith) inside in
          one_first link y x (λ same. next_differs (map number xs) k (number x) (number y) once (map_in number xs k x at)
          (map_in number xs (suc k) y (ap (slice_get xs) (plus_one k) ∙ next)) same) behind;
    })
