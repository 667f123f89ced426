-- Names that all differ, with their numbers, in the order of their bytes; and the ranks that they have there.
use Rattle.std.proofs.Common.{◌≡◌, ℕ, zero, suc, ◌+◌, ◌<◌, false, List, [], ◌∷◌, length, map, set, Some, get_or, Bor, IsPermutation, refl, sym, ap, ◌∙◌, subst, inl, inr, arith}
use Rattle.std.specs.Cmp.{IsTotalOrder}
use Rattle.std.specs.Cmp.Lexicographic.{slice_cmp}
use Rattle.std.specs.List.{AllByRecursion, enumerate_from, slice_get, slice_index}
use Rattle.std.specs.List.Sorted.{IsSortedBy}
use Rattle.std.specs.Ordering.{MatchOrdering, is_lt, nat_cmp, ordering_reverse, ordering_then}
use Rattle.std.specs.declared.cmp.Ordering.{Ordering}
use Rattle.std.specs.declared.cmp.Ordering.TheVariants.{Less, Equal, Greater}
use Rattle.std.proofs.lemmas.Bool.Decides.{eqb_tells}
use Rattle.std.proofs.lemmas.Cmp.{nat_cmp_total, nat_list_cmp_total, on_total, ranked, then_total, tied_itself}
use Rattle.std.proofs.lemmas.List.{get_or-set_other, get_or-set_same, length-map}
use Rattle.std.proofs.lemmas.List.FromFn.{length-enumerate_from}
use Rattle.std.proofs.lemmas.List.Sorted.{Contains-permutation, IsPermutation-map, IsPermutation-sym, length_permutation, ranks_by, sorted_far}
use Rattle.std.proofs.lemmas.Map.Lookups.{exact_bytes}
use Rattle.std.proofs.lemmas.Option.{get_or_from_slice_get, slice_get_within}
use Rattle.lk_link.proofs.Elements.{at_contained, contains_at, map_at, map_in, numbered_at}
use Rattle.lk_link.proofs.InputLemmas.{numbered_get}
use Rattle.lk_ranks.specs.Ranks.{AreDistinct, AreRanks, IsByBytes, bytes_of}
use Rattle.lk_ranks.proofs.Rising.{IsRising, NoneTwice, rising_once}
use Rattle.lk_ranks.proofs.Tallies.{once_moved}

abbrev Name : Type 0
Name = Bor (List ℕ)

-- a name with its number, and how two compare
abbrev Entry : Type 0
Entry = Name × ℕ

abbrev pub entry_cmp : Entry → Entry → Ordering
entry_cmp e f = ordering_then (slice_cmp nat_cmp e.0.now f.0.now) (nat_cmp e.1 f.1)

entry_total : IsTotalOrder entry_cmp
entry_total = then_total (on_total (λ (e : Entry). e.0.now) nat_list_cmp_total) (on_total (λ (e : Entry). e.1) nat_cmp_total)

abbrev pub numbered : List Name → List Entry
numbered names = map (λ q. (q.1, q.0)) (enumerate_from 0 names)

-- ---- which are there

entry_there : (names : List Name) (i : ℕ) (name : Name) → slice_get names i ≡ Some name → slice_get (numbered names) i ≡ Some (name, i)
entry_there names i name there =
    let same : 0 + i ≡ i = omega arith in
    map_in (λ q. (q.1, q.0)) (enumerate_from 0 names) i (0 + i, name) (numbered_get 0 names i name there) ∙ ap (λ (n : ℕ). Some (name, n)) same

entry_names : (names : List Name) (k : ℕ) (e : Entry) → slice_get (numbered names) k ≡ Some e → slice_get names e.1 ≡ Some e.0
entry_names names k e there =
    let from = map_at (λ q. (q.1, q.0)) (enumerate_from 0 names) k e there in
    let at = numbered_at 0 names k from.0 from.1 in
    let place : e.1 ≡ k = ap (λ (f : Entry). f.1) (sym from.2) ∙ at.0 ∙ omega arith in
    ap (slice_get names) place ∙ at.1 ∙ ap (λ (f : Entry). Some f.0) from.2

numbers_rise : (n : ℕ) (names : List Name) → IsRising n (map (λ (e : Entry). e.1) (map (λ q. (q.1, q.0)) (enumerate_from n names))) (n + length names)
numbers_rise n [] = omega arith
numbers_rise n (name ∷ names) =
    let more : n + 1 + length names ≡ n + length (name ∷ names) = omega arith in
    (omega arith, subst (IsRising (n + 1) (map (λ (e : Entry). e.1) (map (λ q. (q.1, q.0)) (enumerate_from (n + 1) names)))) more (numbers_rise (n + 1) names))

-- where no number stands twice, one has one place
not_later : (ns : List ℕ) (k n : ℕ) → AllByRecursion (λ m. m ≡ n → ⊥) ns → slice_get ns k ≡ Some n → ⊥
not_later [] k n h there = absurd (cc)
not_later (m ∷ ns) zero n h there = let same : m ≡ n = cc in h.0 same
not_later (m ∷ ns) (suc k) n h there = not_later ns k n h.1 there

one_place : (ns : List ℕ) (j k n : ℕ) → NoneTwice ns → slice_get ns j ≡ Some n → slice_get ns k ≡ Some n → j ≡ k
one_place [] j k n once at_j at_k = absurd (cc)
one_place (m ∷ ns) zero zero n once at_j at_k = refl
one_place (m ∷ ns) zero (suc k) n once at_j at_k = let same : m ≡ n = cc in absurd (not_later ns k n (subst (λ (i : ℕ). AllByRecursion (λ l. l ≡ i → ⊥) ns) same once.0) at_k)
one_place (m ∷ ns) (suc j) zero n once at_j at_k = let same : m ≡ n = cc in absurd (not_later ns j n (subst (λ (i : ℕ). AllByRecursion (λ l. l ≡ i → ⊥) ns) same once.0) at_j)
one_place (m ∷ ns) (suc j) (suc k) n once at_j at_k = ap suc (one_place ns j k n once.1 at_j at_k)

-- ---- in order

-- of names that differ, one that isn't behind is before
name_first : (a b : List ℕ) (i j : ℕ) → (a ≡ b → ⊥) → is_lt (ordering_then (slice_cmp nat_cmp b a) (nat_cmp j i)) ≡ false → slice_cmp nat_cmp a b ≡ Less
name_first a b i j differ behind = by (slice_cmp nat_cmp b a) refl
  where
    by : (o : Ordering) → slice_cmp nat_cmp b a ≡ o → slice_cmp nat_cmp a b ≡ Less
    by Less is = absurd (cc)
    by Equal is = absurd (differ (sym (exact_bytes b a is)))
    by Greater is = nat_list_cmp_total.antisymm a b ∙ ap ordering_reverse is

pub by_bytes : (names : List Name) (order : List Entry) → AreDistinct (map bytes_of names) → IsPermutation (numbered names) order → IsSortedBy (λ e f. is_lt (entry_cmp e f)) order → IsByBytes names order
by_bytes names order distinct moved sorted = record {
  count = length_permutation (numbered names) order moved ∙ length-map (enumerate_from 0 names) (λ q. (q.1, q.0)) ∙ length-enumerate_from 0 names;
  named = named;
  all = λ i name there.
      at_contained order (name, i) (Contains-permutation (numbered names) order (name, i) moved (contains_at (numbered names) i (name, i) (entry_there names i name there)));
  rising = λ q r e f before at_q at_r.
      let within : r < length order = slice_get_within order r f at_r in
      let behind : is_lt (entry_cmp f e) ≡ false
      = ap (λ (g : Entry). is_lt (entry_cmp g e)) (sym (get_or_from_slice_get order r f e at_r))
      ∙ ap (λ (g : Entry). is_lt (entry_cmp (get_or order r e) g)) (sym (get_or_from_slice_get order q e e at_q))
      ∙ sorted_far (λ g h. is_lt (entry_cmp g h)) (ranks_by entry_total (λ (g : Entry). g)) order sorted q r e (omega (arith, before)) within in
      name_first e.0.now f.0.now e.1 f.1 (λ same. absurd (omega (arith, before, apart q r e f at_q at_r same))) behind;
}
  where
    named : (q : ℕ) (e : Entry) → slice_get order q ≡ Some e → slice_get names e.1 ≡ Some e.0
    named q e at =
        let from = at_contained (numbered names) e (Contains-permutation order (numbered names) e (IsPermutation-sym (numbered names) order moved) (contains_at order q e at)) in
        entry_names names from.0 e from.1

    apart : (q r : ℕ) (e f : Entry) → slice_get order q ≡ Some e → slice_get order r ≡ Some f → e.0.now ≡ f.0.now → q ≡ r
    apart q r e f at_q at_r same =
        let number : e.1 ≡ f.1
        = distinct e.1 f.1 f.0.now (map_in bytes_of names e.1 e.0 (named q e at_q) ∙ ap (λ (n : List ℕ). Some n) same) (map_in bytes_of names f.1 f.0 (named r f at_r)) in
        let numbers : List ℕ = map (λ (g : Entry). g.1) order in
        let once : NoneTwice numbers
        = once_moved (map (λ (g : Entry). g.1) (numbered names)) numbers (IsPermutation-map (λ (g : Entry). g.1) (numbered names) order moved)
        (rising_once 0 (0 + length names) (map (λ (g : Entry). g.1) (numbered names)) (numbers_rise 0 names)) in
        one_place numbers q r f.1 once (map_in (λ (g : Entry). g.1) order q e at_q ∙ ap (λ (n : ℕ). Some n) number) (map_in (λ (g : Entry). g.1) order r f at_r)

-- ---- ranks

-- the ranks of the first of the names are told
abbrev pub AreTold : List Entry → List ℕ → ℕ → Type 0
AreTold order ranks n = (q : ℕ) (e : Entry) → q < n → slice_get order q ≡ Some e → slice_index ranks e.1 ≡ q

less_not_equal : Less ≡ Equal → ⊥
less_not_equal h = absurd (cc)

-- another place has another number
other_number : (names : List Name) (order : List Entry) (q r : ℕ) (e f : Entry) → IsByBytes names order → q < r → slice_get order q ≡ Some e → slice_get order r ≡ Some f → e.1 ≡ f.1 → ⊥
other_number names order q r e f h before at_q at_r same =
    let both : Some e.0 ≡ Some f.0 = sym (h.named q e at_q) ∙ ap (slice_get names) same ∙ h.named r f at_r in
    let one : e.0 ≡ f.0 = cc in
    less_not_equal (sym (h.rising q r e f before at_q at_r) ∙ ap (λ (a : Name). slice_cmp nat_cmp a.now f.0.now) one ∙ tied_itself nat_list_cmp_total f.0.now)

pub one_told : (names : List Name) (order : List Entry) (ranks : List ℕ) (n : ℕ) (e : Entry) → IsByBytes names order → slice_get order n ≡ Some e → e.1 < length ranks
    → AreTold order ranks n → AreTold order (set ranks e.1 n) (n + 1)
one_told names order ranks n e h there inside told q f below at =
    elim (eqb_tells q n) [
      | inl here ↦
          let both : Some f ≡ Some e = sym at ∙ ap (slice_get order) here.1 ∙ there in
          let same : f ≡ e = cc in
          ap (λ (g : Entry). slice_index (set ranks e.1 n) g.1) same ∙ get_or-set_same ranks e.1 n 0 inside ∙ sym here.1
      | inr apart ↦
          let before : q < n = omega (arith, below, apart.1) in
          get_or-set_other ranks e.1 f.1 n 0 (other_number names order q n f e h before at there) ∙ told q f before at
    ]

-- names compare as their places do
places_compare : (names : List Name) (order : List Entry) (q r : ℕ) (e f : Entry) → IsByBytes names order → slice_get order q ≡ Some e → slice_get order r ≡ Some f
    → nat_cmp q r ≡ slice_cmp nat_cmp e.0.now f.0.now
places_compare names order q r e f h at_q at_r = by (nat_cmp q r) refl (ranked q r (nat_cmp q r) refl)
  where
    by : (o : Ordering) → nat_cmp q r ≡ o → MatchOrdering o (q < r) (q ≡ r) (r < q) → nat_cmp q r ≡ slice_cmp nat_cmp e.0.now f.0.now
    by Less is before = is ∙ sym (h.rising q r e f before at_q at_r)
    by Equal is here =
        let both : Some e ≡ Some f = sym at_q ∙ ap (slice_get order) here ∙ at_r in
        let same : e ≡ f = cc in
        is ∙ sym (ap (λ (g : Entry). slice_cmp nat_cmp g.0.now f.0.now) same ∙ tied_itself nat_list_cmp_total f.0.now)
    by Greater is behind = is ∙ sym (nat_list_cmp_total.antisymm e.0.now f.0.now ∙ ap ordering_reverse (h.rising r q f e behind at_r at_q))

pub are_ranks : (names : List Name) (order : List Entry) (ranks : List ℕ) → IsByBytes names order → AreTold order ranks (length order) → AreRanks (map bytes_of names) ranks
are_ranks names order ranks h told i j a b at_i at_j =
    let x = map_at bytes_of names i a at_i in
    let y = map_at bytes_of names j b at_j in
    let p = h.all i x.0 x.1 in
    let q = h.all j y.0 y.1 in
    let rank_i : slice_index ranks i ≡ p.0 = told p.0 (x.0, i) (slice_get_within order p.0 (x.0, i) p.1) p.1 in
    let rank_j : slice_index ranks j ≡ q.0 = told q.0 (y.0, j) (slice_get_within order q.0 (y.0, j) q.1) q.1 in
    ap (λ (n : ℕ). nat_cmp n (slice_index ranks j)) rank_i
    ∙ ap (nat_cmp p.0) rank_j
    ∙ places_compare names order p.0 q.0 (x.0, i) (y.0, j) h p.1 q.1
    ∙ ap (λ (n : List ℕ). slice_cmp nat_cmp n y.0.now) x.2
    ∙ ap (slice_cmp nat_cmp a) y.2
