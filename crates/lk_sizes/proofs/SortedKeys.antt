-- Sections whose keys are sorted stand in the order of their names, then by file and index.
use Rattle.std.proofs.Common.{◌≡◌, ℕ, zero, suc, ◌+◌, ◌*◌, ◌^◌, ◌%◌, ◌<◌, ◌≤◌, Bool, true, false, List, [], ◌∷◌, length, map, Option, Some, unwrap_or, get_or, IsPermutation, refl, sym, ap, ◌∙◌, subst, inl, inr, arith}
use Rattle.std.specs.Cmp.{IsTotalOrder}
use Rattle.std.specs.List.{enumerate_from, slice_get, slice_index}
use Rattle.std.specs.List.Sorted.{IsSorted}
use Rattle.std.specs.Ordering.{MatchOrdering, is_lt, nat_cmp, ordering_reverse, ordering_then}
use Rattle.std.specs.declared.cmp.Ordering.{Ordering}
use Rattle.std.specs.declared.cmp.Ordering.TheVariants.{Less, Equal, Greater}
use Rattle.std.proofs.lemmas.Bool.Decides.{eqb_tells}
use Rattle.std.proofs.lemmas.Cmp.{nat_cmp_total, on_total, ranked, then_total, tied_itself}
use Rattle.std.proofs.lemmas.List.{ext_get_or, length-map}
use Rattle.std.proofs.lemmas.List.FromFn.{length-enumerate_from}
use Rattle.std.proofs.lemmas.List.Sums.{count_by-le-length, length-filter}
use Rattle.std.proofs.lemmas.List.Sorted.{Contains-permutation, IsNonDecreasingBy-from_sort, IsPermutation-map, IsPermutation-refl, IsPermutation-sym, length_permutation}
use Rattle.std.proofs.lemmas.Option.{get_or_from_slice_get, slice_get-get_or, slice_get_within, unwrap_or-slice_get}
use Rattle.lk_link.specs.declared.link.LinkInput.{LinkInput}
use Rattle.lk_link.specs.Inputs.{Input, all_inputs}
use Rattle.lk_link.specs.WellFormed.{IsWellFormed}
use Rattle.lk_link.proofs.Elements.{at_contained, at_index, contains_at, map_at, map_in, numbered_at}
use Rattle.lk_link.proofs.InputLemmas.{inputs_follow}
use Rattle.lk_live.specs.declared.live.Live.{Live}
use Rattle.lk_live.specs.Reach.{live_inputs, marked}
use Rattle.lk_reach.proofs.SymbolNumbers.{inputs_few}
use Rattle.lk_ranks.specs.Ranks.{AreKeys, AreRanks, AreSortedKeys, StandByKeys, sort_key}
use Rattle.lk_sizes.specs.Sorted.{before, name_cmp, sorted_inputs, sorted_ones}
use Rattle.lk_sizes.proofs.Earlier.{Earlier, place_cmp, sorted_rise}
use Rattle.lk_sizes.proofs.LiveOnes.{Pairwise}
use Rattle.lk_sizes.proofs.SortedOnes.{all_at, file_total, in_name_order}

-- ---- a key and its section

-- what a key says: the place, the section there, and what the ranks make of its name
record IsKeyOf (xs : List Input) (names : List (List ℕ)) (ranks : List ℕ) (place key : ℕ) : Type 0 where
  input : Input
  there : slice_get xs place ≡ Some input
  number : ℕ
  named : slice_get names number ≡ Some input.section.name
  is : key ≡ slice_index ranks number * 2 ^ 32 + place

key_at : (xs : List Input) (keys : List ℕ) (h : AreKeys xs keys) (k key : ℕ) → slice_get keys k ≡ Some key → IsKeyOf xs h.names h.ranks k key
key_at xs keys h k key at =
    let made : slice_get (map (sort_key h.ranks) (enumerate_from 0 h.numbers)) k ≡ Some key = ap (λ (ks : List ℕ). slice_get ks k) (sym h.keyed) ∙ at in
    let from = map_at (sort_key h.ranks) (enumerate_from 0 h.numbers) k key made in
    let q : ℕ × ℕ = from.0 in
    let number = numbered_at 0 h.numbers k q from.1 in
    let named : slice_get (map (λ (x : Input). Some x.section.name) xs) k ≡ Some (slice_get h.names q.1)
    = ap (λ os. slice_get os k) (sym h.numbered) ∙ map_in (slice_get h.names) h.numbers k q.1 number.1 in
    let x = map_at (λ (x : Input). Some x.section.name) xs k (slice_get h.names q.1) named in
    record {
      input = x.0;
      there = x.1;
      number = q.1;
      named = sym x.2;
      is = sym from.2 ∙ ap (λ (n : ℕ). slice_index h.ranks q.1 * 2 ^ 32 + n) (number.0 ∙ omega arith);
    }

-- there are as many as sections
pub keys_count : (xs : List Input) (keys : List ℕ) → AreKeys xs keys → length keys ≡ length xs
keys_count xs keys h =
    ap length h.keyed
    ∙ length-map (enumerate_from 0 h.numbers) (sort_key h.ranks)
    ∙ length-enumerate_from 0 h.numbers
    ∙ sym (length-map h.numbers (slice_get h.names))
    ∙ ap length h.numbered
    ∙ length-map xs (λ (x : Input). Some x.section.name)

place_of : (rank place key : ℕ) → place < 2 ^ 32 → key ≡ rank * 2 ^ 32 + place → key % 2 ^ 32 ≡ place
place_of rank place key below is = omega (arith, below, is)

-- ---- two keys

earlier_places : (xs : List Input) (j k : ℕ) (x y : Input) → Pairwise Earlier xs → j < k → slice_get xs j ≡ Some x → slice_get xs k ≡ Some y → Earlier x y
earlier_places [] j k x y h less at_j at_k = absurd (cc)
earlier_places (z ∷ xs) zero zero x y h less at_j at_k = absurd (omega (arith, less))
earlier_places (z ∷ xs) zero (suc k) x y h less at_j at_k =
    let same : z ≡ x = cc in
    subst (λ (w : Input). Earlier w y) same (all_at (Earlier z) xs k y h.0 at_k)
earlier_places (z ∷ xs) (suc j) zero x y h less at_j at_k = absurd (omega (arith, less))
earlier_places (z ∷ xs) (suc j) (suc k) x y h less at_j at_k = earlier_places xs j k x y h.1 (omega (arith, less)) at_j at_k

place_total : IsTotalOrder place_cmp
place_total = then_total (on_total (λ (x : Input). x.file) file_total) (on_total (λ (x : Input). x.index) nat_cmp_total)

-- of two sections the one whose place isn't greater doesn't stand behind the other
not_earlier : (xs : List Input) (i j : ℕ) (x y : Input) → Pairwise Earlier xs → i ≤ j → slice_get xs i ≡ Some x → slice_get xs j ≡ Some y → is_lt (place_cmp y x) ≡ false
not_earlier xs i j x y rise le at_i at_j =
    elim (eqb_tells i j) [
      | inl here ↦
          let both : Some y ≡ Some x = sym at_j ∙ ap (slice_get xs) (sym here.1) ∙ at_i in
          let same : y ≡ x = cc in
          ap (λ (z : Input). is_lt (place_cmp z x)) same ∙ ap is_lt (tied_itself place_total x)
      | inr apart ↦
          let first : Earlier x y = earlier_places xs i j x y rise (omega (arith, le, apart.1)) at_i at_j in
          ap is_lt (place_total.antisymm y x ∙ ap ordering_reverse first)
    ]

-- the section of a key that isn't above another stands no later
not_before : (xs : List Input) (names : List (List ℕ)) (ranks : List ℕ) (i j a b : ℕ) → Pairwise Earlier xs → AreRanks names ranks → (p : IsKeyOf xs names ranks i a) (q : IsKeyOf xs names ranks j b)
    → i < 2 ^ 32 → j < 2 ^ 32 → a ≤ b → before q.input p.input ≡ false
not_before xs names ranks i j a b rise told p q small_i small_j le =
    ap (λ o. is_lt (ordering_then o (place_cmp q.input p.input))) (sym (told q.number p.number q.input.section.name p.input.section.name q.named p.named))
    ∙ by (nat_cmp high low) (ranked high low (nat_cmp high low) refl)
  where
    low : ℕ
    low = slice_index ranks p.number

    high : ℕ
    high = slice_index ranks q.number

    by : (o : Ordering) → MatchOrdering o (high < low) (high ≡ low) (low < high) → is_lt (ordering_then o (place_cmp q.input p.input)) ≡ false
    by Less fewer = absurd (omega (arith, fewer, le, p.is, q.is, small_i, small_j))
    by Equal same = not_earlier xs i j p.input q.input rise (omega (arith, same, le, p.is, q.is)) p.there q.there
    by Greater more = refl

-- ---- few enough to have keys

marked_few : (marks : List Bool) (xs : List Input) → length (marked marks xs) ≤ length xs
marked_few [] xs = omega arith
marked_few (m ∷ marks) [] = omega arith
marked_few (true ∷ marks) (x ∷ xs) = omega (arith, marked_few marks xs)
marked_few (false ∷ marks) (x ∷ xs) = omega (arith, marked_few marks xs)

pub sorted_few : (link : LinkInput) (live : Live) → IsWellFormed link → length (sorted_ones link live) ≤ 2 ^ 24
sorted_few link live good =
    omega (
      arith,
      length-filter (λ (x : Input). x.section.sorted) (live_inputs link live),
      count_by-le-length (λ (x : Input). x.section.sorted) (live_inputs link live),
      marked_few live.marks (all_inputs link.groups),
      inputs_follow.count link.groups,
      inputs_few link good,
    )

-- ---- all keys

-- the place that a key says is that of a section
place_within : (xs : List Input) (keys new : List ℕ) (k : ℕ) → AreKeys xs keys → IsPermutation keys new → length xs ≤ 2 ^ 24 → k < length new → slice_index new k % 2 ^ 32 < length xs
place_within xs keys new k h moved few below =
    let key : ℕ = slice_index new k in
    let at : slice_get new k ≡ Some key = slice_get-get_or new k 0 below in
    let from = at_contained keys key (Contains-permutation new keys key (IsPermutation-sym keys new moved) (contains_at new k key at)) in
    let says = key_at xs keys h from.0 key from.1 in
    let within : from.0 < length xs = slice_get_within xs from.0 says.input says.there in
    omega (arith, place_of (slice_index h.ranks says.number) from.0 key (omega (arith, within, few)) says.is, within)

-- what the key of a section says, in sorted keys
record IsInputAt (xs : List Input) (names : List (List ℕ)) (ranks new : List ℕ) (k : ℕ) (x : Input) : Type 0 where
  key : ℕ
  at : slice_get new k ≡ Some key
  place : ℕ
  small : place < 2 ^ 32
  says : IsKeyOf xs names ranks place key
  is : says.input ≡ x

module _ (xs ys : List Input) (keys new : List ℕ) (h : AreKeys xs keys) (few : length xs ≤ 2 ^ 24) (moved : IsPermutation keys new) (stand : StandByKeys xs new ys) where
  input_at : (k : ℕ) (x : Input) → slice_get ys k ≡ Some x → IsInputAt xs h.names h.ranks new k x
  input_at k x there =
      let found_at : ℕ → Option Input = λ key. slice_get xs (key % 2 ^ 32) in
      let one : slice_get (map found_at new) k ≡ Some (Some x) = ap (λ os. slice_get os k) (sym stand) ∙ map_in Some ys k x there in
      let key = map_at found_at new k (Some x) one in
      let from = at_contained keys key.0 (Contains-permutation new keys key.0 (IsPermutation-sym keys new moved) (contains_at new k key.0 key.1)) in
      let says = key_at xs keys h from.0 key.0 from.1 in
      let within : from.0 < length xs = slice_get_within xs from.0 says.input says.there in
      let small : from.0 < 2 ^ 32 = omega (arith, within, few) in
      let read : slice_get xs from.0 ≡ Some x = ap (slice_get xs) (sym (place_of (slice_index h.ranks says.number) from.0 key.0 small says.is)) ∙ key.2 in
      let both : Some says.input ≡ Some x = sym says.there ∙ read in
      record { key = key.0; at = key.1; place = from.0; small = small; says = says; is = cc }

  unwrapped : (d : Input) (f : ℕ → Option Input) (zs : List Input) (ks : List ℕ) → map Some zs ≡ map f ks → map (λ key. unwrap_or (f key) d) ks ≡ zs
  unwrapped d f [] [] is = refl
  unwrapped d f [] (k ∷ ks) is = absurd (cc)
  unwrapped d f (z ∷ zs) [] is = absurd (cc)
  unwrapped d f (z ∷ zs) (k ∷ ks) is =
      let first : f k ≡ Some z = cc in
      let rest : map Some zs ≡ map f ks = cc in
      ap (λ (o : Option Input). unwrap_or o d ∷ map (λ key. unwrap_or (f key) d) ks) first ∙ ap (λ (all : List Input). z ∷ all) (unwrapped d f zs ks rest)

  moved_by : Input → IsPermutation xs ys
  moved_by d =
      let of : ℕ → Input = λ key. unwrap_or (slice_get xs (key % 2 ^ 32)) d in
      let count : length keys ≡ length xs = keys_count xs keys h in
      let all : map of keys ≡ xs
      = ext_get_or d (map of keys) xs (length-map keys of ∙ count) (λ i below.
      let inside : i < length keys = omega (arith, below, length-map keys of) in
      let key = at_index keys i inside in
      let says = key_at xs keys h i key.0 key.1 in
      let place : key.0 % 2 ^ 32 ≡ i = place_of (slice_index h.ranks says.number) i key.0 (omega (arith, inside, count, few)) says.is in
      get_or_from_slice_get (map of keys) i (of key.0) d (map_in of keys i key.0 key.1)
      ∙ ap (λ (n : ℕ). unwrap_or (slice_get xs n) d) place
      ∙ unwrap_or-slice_get xs i d) in
      subst (λ (zs : List Input). IsPermutation xs zs) (unwrapped d (λ key. slice_get xs (key % 2 ^ 32)) ys new stand)
      (subst (λ (zs : List Input). IsPermutation zs (map of new)) all (IsPermutation-map of keys new moved))

  empty : (zs : List Input) → length zs ≡ 0 → zs ≡ []
  empty [] none = refl
  empty (z ∷ zs) none = absurd (omega (arith, none))

  all_moved : IsPermutation xs ys
  all_moved = by xs refl
    where
      by : (zs : List Input) → xs ≡ zs → IsPermutation xs ys
      by [] none =
          let no_keys : length new ≡ 0 = length_permutation keys new moved ∙ keys_count xs keys h ∙ ap length none in
          let nothing : length ys ≡ 0 = sym (length-map ys Some) ∙ ap length stand ∙ length-map new (λ key. slice_get xs (key % 2 ^ 32)) ∙ no_keys in
          subst (λ (zs : List Input). IsPermutation xs zs) (none ∙ sym (empty ys nothing)) (IsPermutation-refl xs)
      by (z ∷ zs) some = moved_by z

  rise_by_name : Pairwise Earlier xs → IsSorted nat_cmp new → IsSorted name_cmp ys
  rise_by_name rise sorted k d from below =
      let low = at_index ys k (omega (arith, below)) in
      let high = at_index ys (k + 1) below in
      let p = input_at k low.0 low.1 in
      let q = input_at (k + 1) high.0 high.1 in
      let le : get_or new k 0 ≤ get_or new (k + 1) 0 = IsNonDecreasingBy-from_sort (λ (n : ℕ). n) new sorted k (k + 1) 0 (omega arith) (slice_get_within new (k + 1) q.key q.at) in
      let keys_rise : p.key ≤ q.key = omega (arith, le, get_or_from_slice_get new k p.key 0 p.at, get_or_from_slice_get new (k + 1) q.key 0 q.at) in
      let behind : before q.says.input p.says.input ≡ false
      = not_before xs h.names h.ranks p.place q.place p.key q.key rise h.ranked p.says q.says p.small q.small keys_rise in
      ap (λ (x : Input). before x (get_or ys k d)) (get_or_from_slice_get ys (k + 1) high.0 d high.1)
      ∙ ap (before high.0) (get_or_from_slice_get ys k low.0 d low.1)
      ∙ ap (λ (x : Input). before x low.0) (sym q.is)
      ∙ ap (before q.says.input) (sym p.is)
      ∙ behind

-- ---- what is told of sections, in the order of their keys

-- there is a section for each key
placed : (xs : List Input) (ks : List ℕ) → ((k : ℕ) → k < length ks → slice_index ks k % 2 ^ 32 < length xs) → (ys : List Input) × StandByKeys xs ks ys
placed xs [] within = ([], refl)
placed xs (key ∷ ks) within =
    let one = at_index xs (key % 2 ^ 32) (within 0 (omega arith)) in
    let rest = placed xs ks (λ k below. within (suc k) (omega (arith, below))) in (
      one.0 ∷ rest.0,
      ap (λ (o : Option Input). o ∷ map Some rest.0) (sym one.1) ∙ ap (λ (os : List (Option Input)). slice_get xs (key % 2 ^ 32) ∷ os) rest.1,
    )

told_alike : {Y : Type 0} (tell : Input → Y) (xs : List Input) (ks : List ℕ) (ys : List Input) (all : List Y) → StandByKeys xs ks ys → StandByKeys (map tell xs) ks all → all ≡ map tell ys
told_alike tell xs [] [] [] h i = refl
told_alike tell xs [] [] (a ∷ all) h i = absurd (cc)
told_alike tell xs [] (y ∷ ys) all h i = absurd (cc)
told_alike tell xs (k ∷ ks) [] all h i = absurd (cc)
told_alike tell xs (k ∷ ks) (y ∷ ys) [] h i = absurd (cc)
told_alike tell xs (k ∷ ks) (y ∷ ys) (a ∷ all) h i =
    let first : slice_get xs (k % 2 ^ 32) ≡ Some y = cc in
    let made : slice_get (map tell xs) (k % 2 ^ 32) ≡ Some (tell y) = map_in tell xs (k % 2 ^ 32) y first in
    let read : Some a ≡ slice_get (map tell xs) (k % 2 ^ 32) = cc in
    let both : Some a ≡ Some (tell y) = read ∙ made in
    let same : a ≡ tell y = cc in
    let rest : map Some ys ≡ map (λ key. slice_get xs (key % 2 ^ 32)) ks = cc in
    let others : map Some all ≡ map (λ key. slice_get (map tell xs) (key % 2 ^ 32)) ks = cc in
    ap (λ (b : _). b ∷ all) same ∙ ap (λ (bs : List _). tell y ∷ bs) (told_alike tell xs ks ys all rest others)

-- the places that keys say are there
pub keys_within : (link : LinkInput) (live : Live) (new : List ℕ) (k : ℕ) → IsWellFormed link → AreSortedKeys (sorted_ones link live) new → k < length new
    → slice_index new k % 2 ^ 32 < length (sorted_ones link live)
keys_within link live new k good h below = place_within (sorted_ones link live) h.made new k h.are h.moved (sorted_few link live good) below

-- what is told of the sorted sections stands by name in the order of their keys
pub told_by_keys : {Y : Type 0} (link : LinkInput) (live : Live) (tell : Input → Y) (new : List ℕ) (all : List Y) → IsWellFormed link → AreSortedKeys (sorted_ones link live) new
    → StandByKeys (map tell (sorted_ones link live)) new all → all ≡ map tell (sorted_inputs link live)
told_by_keys link live tell new all good h stand =
    let xs : List Input = sorted_ones link live in
    let few : length xs ≤ 2 ^ 24 = sorted_few link live good in
    let ys = placed xs new (λ k below. keys_within link live new k good h below) in
    let rise : IsSorted name_cmp ys.0 = rise_by_name xs ys.0 h.made new h.are few h.moved ys.1 (sorted_rise link live) h.rising in
    told_alike tell xs new ys.0 all ys.1 stand ∙ ap (map tell) (in_name_order link live ys.0 (all_moved xs ys.0 h.made new h.are few h.moved ys.1) rise)
