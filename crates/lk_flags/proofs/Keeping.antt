-- A table of flags keeps its rule at each of its steps.
use Rattle.std.proofs.Common.{◌≡◌, ◌≢◌, ℕ, zero, suc, ◌+◌, ◌-◌, ◌<◌, ◌≤◌, List, [], ◌∷◌, ◌++◌, length, append-nil, refl, sym, ap, ◌∙◌, subst, inl, inr, ◌⊎◌, arith, get_or, set, bit_or}
use Rattle.std.specs.Int.{bit_at}
use Rattle.std.specs.List.{slice_index}
use Rattle.std.specs.List.Sorted.{IsPermutation}
use Rattle.std.proofs.lemmas.Bool.{cases_eq, cases_lt}
use Rattle.std.proofs.lemmas.List.{append_assoc, length-set, get_or-set_same, get_or-set_other, get_or_past}
use Rattle.std.proofs.lemmas.List.Elements.{All-append, All-cons, All-nil, Contains-append_left, Contains-append_right, Contains-push}
use Rattle.std.proofs.lemmas.List.Sorted.{Contains-permutation, IsPermutation-append_comm, IsPermutation-append_left, IsPermutation-append_right, IsPermutation-refl, IsPermutation-sym, IsPermutation-trans}
use Rattle.std.proofs.lemmas.Nat.Bits.{bit_at-lt, bit_at-zero, bit_at_or}
use mathlib.Core.Option.{none, some, some-injective, some-ne-none}
use lib.ListN.{get_elem?}
use Rattle.atomic_table.specs.Table.{Allows, Joins, Me, Splits, State, keeps, step}
use Rattle.atomic_table.proofs.Lists.{at_set, at_snoc, set_else}
use Rattle.lk_flags.specs.declared.flags.FlagSet.{FlagSet}
use Rattle.lk_flags.specs.declared.flags.View.{View}
use Rattle.lk_flags.specs.Flags.{AllWithin, AreIn, AreInTurn, AreLeft, HaveNoMore, InTurn, IsFound, IsSet, Within, all_parts}
use Rattle.lk_flags.specs.Rule.{IsKept, IsKeptBy, SetsFlags, parts_of, sets_of, view_of}

-- ---- words

or_left : (a b i : ℕ) → bit_at a i ≡ 1 → bit_at (bit_or a b) i ≡ 1
or_left a b i h = omega (arith, bit_at_or a b i, bit_at-lt b i)

or_right : (a b i : ℕ) → bit_at b i ≡ 1 → bit_at (bit_or a b) i ≡ 1
or_right a b i h = omega (arith, bit_at_or a b i, bit_at-lt a i)

or_cases : (a b i : ℕ) → bit_at (bit_or a b) i ≡ 1 → (bit_at a i ≡ 1) ⊎ ((bit_at a i ≡ 0) × (bit_at b i ≡ 1))
or_cases a b i h = elim (cases_eq (bit_at a i) 1) [
  | inl is ↦ inl is
  | inr isnt ↦ inr (omega (arith, isnt, bit_at-lt a i), omega (arith, isnt, h, bit_at_or a b i, bit_at-lt a i, bit_at-lt b i))
]

-- flags are set in the word at a place
abbrev set_in : List ℕ → ℕ → ℕ → List ℕ
set_in words n bits = set words n (bit_or (slice_index words n) bits)

-- a word in which a bit is set stands inside
bit_inside : (words : List ℕ) (n i : ℕ) → bit_at (slice_index words n) i ≡ 1 → n < length words
bit_inside words n i h = elim (cases_lt n (length words)) [
  | inl lt ↦ lt
  | inr past ↦
      let none_there : bit_at 0 i ≡ 1 = ap (λ w. bit_at w i) (sym (get_or_past words n 0 past)) ∙ h in
      absurd (omega (arith, none_there, bit_at-zero i))
]

-- no flag is lost
grows : (words : List ℕ) (n bits : ℕ) → AllWithin words (set_in words n bits)
grows words n bits m i h = elim (cases_eq m n) [
  | inl same ↦
      let there : bit_at (slice_index words n) i ≡ 1 = subst (λ k. bit_at (slice_index words k) i ≡ 1) same h in
      let joined = bit_or (slice_index words n) bits in
      let read : get_or (set words n joined) n 0 ≡ joined = get_or-set_same words n joined 0 (bit_inside words n i there) in
      subst (λ k. bit_at (slice_index (set words n joined) k) i ≡ 1) (sym same) (ap (λ w. bit_at w i) read ∙ or_left (slice_index words n) bits i there)
  | inr other ↦ ap (λ w. bit_at w i) (get_or-set_other words n m (bit_or (slice_index words n) bits) 0 other) ∙ h
]

-- what is set is there
is_set : (words : List ℕ) (n bits : ℕ) → n < length words → Within bits (slice_index (set_in words n bits) n)
is_set words n bits lt i h =
    ap (λ w. bit_at w i) (get_or-set_same words n (bit_or (slice_index words n) bits) 0 lt) ∙ or_right (slice_index words n) bits i h

-- words stay within their bounds
stays : (words bounds : List ℕ) (n bits : ℕ) → AllWithin words bounds → Within bits (slice_index bounds n) → AllWithin (set_in words n bits) bounds
stays words bounds n bits within new m i h = elim (cases_eq m n) [
  | inl same ↦
      let joined = bit_or (slice_index words n) bits in
      let there : bit_at (slice_index (set words n joined) n) i ≡ 1 = subst (λ k. bit_at (slice_index (set words n joined) k) i ≡ 1) same h in
      let lt : n < length words = omega (arith, bit_inside (set words n joined) n i there, length-set words n joined) in
      let read : get_or (set words n joined) n 0 ≡ joined = get_or-set_same words n joined 0 lt in
      subst (λ k. bit_at (slice_index bounds k) i ≡ 1) (sym same) (elim (or_cases (slice_index words n) bits i (ap (λ w. bit_at w i) (sym read) ∙ there)) [
        | inl old ↦ within n i old
        | inr fresh ↦ new i fresh.1
      ])
  | inr other ↦ within m i (ap (λ w. bit_at w i) (sym (get_or-set_other words n m (bit_or (slice_index words n) bits) 0 other)) ∙ h)
]

still_in : (sets : List FlagSet) (old new : List ℕ) → AllWithin old new → AreIn sets old → AreIn sets new
still_in sets old new grow h k d lt i bit = grow (get_or sets k d).word i (h k d lt i bit)

-- ---- steps

nothing_in : (words : List ℕ) → AreIn [] words
nothing_in words k d lt = absurd (omega arith)

one_more : (sets : List FlagSet) (x : FlagSet) (words : List ℕ) → AreIn sets words → Within x.bits (slice_index words x.word) → AreIn (sets ++ x ∷ []) words
one_more sets x words old new =
    let P : FlagSet → Type 0 = λ y. Within y.bits (slice_index words y.word) in
    All-append P sets (x ∷ []) old (All-cons P x [] new (All-nil P))

found_in : (handed bounds words : List ℕ) (sets : List FlagSet) (n : ℕ) → AllWithin handed words → AllWithin words bounds → AreIn sets words → IsFound handed bounds sets n (slice_index words n)
found_in handed bounds words sets n from within own = record {
  handed_in = from n;
  bounded = within n;
  own = λ k d lt same i bit. subst (λ m. bit_at (slice_index words m) i ≡ 1) same (own k d lt i bit);
}

-- ---- sets in turn

-- one more behind those that came
turn_more : (first : List ℕ) (sets : List FlagSet) (last : List ℕ) (x : FlagSet) → InTurn first sets last → x.found ≡ slice_index last x.word → InTurn first (sets ++ x ∷ []) (set last x.word (bit_or x.found x.bits))
unfolding InTurn
turn_more first [] last x is finds = (finds ∙ ap (λ ws. slice_index ws x.word) is, ap (λ ws. set ws x.word (bit_or x.found x.bits)) is)
turn_more first (y ∷ sets) last x turns finds = (turns.0, turn_more (set first y.word (bit_or y.found y.bits)) sets last x turns.1 finds)

-- one set leaves what was there
one_grows : (words : List ℕ) (x : FlagSet) → x.found ≡ slice_index words x.word → AllWithin words (set words x.word (bit_or x.found x.bits))
one_grows words x finds = subst (λ k. AllWithin words (set words x.word (bit_or k x.bits))) (sym finds) (grows words x.word x.bits)

pub turns_grow : (first : List ℕ) (sets : List FlagSet) (last : List ℕ) → InTurn first sets last → AllWithin first last
unfolding InTurn
turns_grow first [] last is m i h = subst (λ ws. bit_at (slice_index ws m) i ≡ 1) (sym is) h
turns_grow first (x ∷ sets) last turns m i h = turns_grow (set first x.word (bit_or x.found x.bits)) sets last turns.1 m i (one_grows first x turns.0 m i h)

-- a bit that is there after one set was there, or is one of it that it found missing
one_back : (words : List ℕ) (x : FlagSet) (m i : ℕ) → x.found ≡ slice_index words x.word → bit_at (slice_index (set words x.word (bit_or x.found x.bits)) m) i ≡ 1
    → (bit_at (slice_index words m) i ≡ 1) ⊎ ((x.word ≡ m) × (bit_at x.bits i ≡ 1) × (bit_at x.found i ≡ 0))
one_back words x m i finds h = elim (cases_eq m x.word) [
  | inl same ↦
      let joined = bit_or x.found x.bits in
      let here : bit_at (slice_index (set words x.word joined) x.word) i ≡ 1 = subst (λ k. bit_at (slice_index (set words x.word joined) k) i ≡ 1) same h in
      let within : x.word < length words = omega (arith, bit_inside (set words x.word joined) x.word i here, length-set words x.word joined) in
      let bit : bit_at joined i ≡ 1 = ap (λ k. bit_at k i) (sym (get_or-set_same words x.word joined 0 within)) ∙ here in
      elim (or_cases x.found x.bits i bit) [
        | inl old ↦ inl (ap (λ k. bit_at (slice_index words k) i) same ∙ (ap (λ k. bit_at k i) (sym finds) ∙ old))
        | inr fresh ↦ inr (sym same, fresh.1, fresh.0)
      ]
  | inr other ↦ inl (ap (λ k. bit_at k i) (sym (get_or-set_other words x.word m (bit_or x.found x.bits) 0 other)) ∙ h)
]

-- a bit that is there after sets was there, or is one of a set that found it missing
turns_back : (first : List ℕ) (sets : List FlagSet) (last : List ℕ) (m i : ℕ) → InTurn first sets last → bit_at (slice_index last m) i ≡ 1 → (bit_at (slice_index first m) i ≡ 1) ⊎ IsSet sets m i
unfolding InTurn
turns_back first [] last m i is h = inl (subst (λ ws. bit_at (slice_index ws m) i ≡ 1) is h)
turns_back first (x ∷ sets) last m i turns h = elim (turns_back (set first x.word (bit_or x.found x.bits)) sets last m i turns.1 h) [
  | inl before ↦ elim (one_back first x m i turns.0 before) [
    | inl old ↦ inl old
    | inr fresh ↦ inr (record { one = x; among = Contains-append_left (x ∷ []) sets x (Contains-push [] x); there = fresh.0; bit = fresh.1; missing = fresh.2 })
  ]
  | inr later ↦ inr (record { one = later.one; among = Contains-append_right (x ∷ []) sets later.one later.among; there = later.there; bit = later.bit; missing = later.missing })
]

-- sets in turn leave nothing but what was there and what they set
pub turned_no_more : (handed : List ℕ) (sets : List FlagSet) (words : List ℕ) → AreInTurn handed sets words → HaveNoMore handed sets words
turned_no_more handed sets words are m i h = elim (turns_back handed are.order words m i are.turns h) [
  | inl from ↦ inl from
  | inr by ↦ inr (record { one = by.one; among = Contains-permutation are.order sets by.one (IsPermutation-sym sets are.order are.same) by.among; there = by.there; bit = by.bit; missing = by.missing })
]

-- the same sets in another order
turned_as : (handed : List ℕ) (old new : List FlagSet) (words : List ℕ) → IsPermutation new old → AreInTurn handed old words → AreInTurn handed new words
turned_as handed old new words moved are = record { order = are.order; same = IsPermutation-trans new old are.order moved are.same; turns = are.turns }

-- one set more, the last of all
turned_more : (handed : List ℕ) (sets : List FlagSet) (words : List ℕ) (x : FlagSet) → AreInTurn handed sets words → x.found ≡ slice_index words x.word
    → AreInTurn handed (sets ++ x ∷ []) (set words x.word (bit_or x.found x.bits))
turned_more handed sets words x are finds = record {
  order = are.order ++ x ∷ [];
  same = IsPermutation-append_left (x ∷ []) sets are.order are.same;
  turns = turn_more handed are.order words x are.turns finds;
}

-- ---- parts

part_in : (views : List View) (k : ℕ) (u : View) → get_elem? views k ≡ some u → u.parts ≤ parts_of views
part_in [] k u h = absurd (some-ne-none u (sym h))
part_in (x ∷ xs) zero u h = let same : x.parts ≡ u.parts = ap (λ (v : View). v.parts) (some-injective x u h) in omega arith
part_in (x ∷ xs) (suc k) u h = let below = part_in xs k u h in omega arith

-- two views have no more than all
both_in : (views : List View) (id k : ℕ) (v u : View) → k ≢ id → get_elem? views id ≡ some v → get_elem? views k ≡ some u → v.parts + u.parts ≤ parts_of views
both_in [] id k v u apart h there = absurd (some-ne-none v (sym h))
both_in (x ∷ xs) zero zero v u apart h there = absurd (apart refl)
both_in (x ∷ xs) zero (suc k) v u apart h there =
    let same : x.parts ≡ v.parts = ap (λ (w : View). w.parts) (some-injective x v h) in
    let below = part_in xs k u there in
    omega arith
both_in (x ∷ xs) (suc id) zero v u apart h there =
    let same : x.parts ≡ u.parts = ap (λ (w : View). w.parts) (some-injective x u there) in
    let below = part_in xs id v h in
    omega arith
both_in (x ∷ xs) (suc id) (suc k) v u apart h there = let below = both_in xs id k v u (λ e. apart (ap suc e)) h there in omega arith

parts_set : (views : List View) (id : ℕ) (v w : View) → get_elem? views id ≡ some v → parts_of (set views id w) + v.parts ≡ parts_of views + w.parts
parts_set [] id v w h = absurd (some-ne-none v (sym h))
parts_set (x ∷ xs) zero v w h = let same : x.parts ≡ v.parts = ap (λ (u : View). u.parts) (some-injective x v h) in omega arith
parts_set (x ∷ xs) (suc id) v w h = let later = parts_set xs id v w h in omega arith

parts_snoc : (views : List View) (w : View) → parts_of (views ++ w ∷ []) ≡ parts_of views + w.parts
parts_snoc [] w = omega arith
parts_snoc (x ∷ xs) w = let later = parts_snoc xs w in omega arith

-- a view stands among them
inside : (views : List View) (id : ℕ) (v : View) → get_elem? views id ≡ some v → id < length views
inside [] id v h = absurd (some-ne-none v (sym h))
inside (x ∷ xs) zero v h = omega arith
inside (x ∷ xs) (suc id) v h = let later = inside xs id v h in omega arith

-- ---- the sets of all views

swap_tails : (xs ys zs : List FlagSet) → IsPermutation ((xs ++ ys) ++ zs) ((xs ++ zs) ++ ys)
swap_tails xs ys zs =
    subst (λ all. IsPermutation all ((xs ++ zs) ++ ys)) (sym (append_assoc xs ys zs))
    (subst (IsPermutation (xs ++ (ys ++ zs))) (sym (append_assoc xs zs ys)) (IsPermutation-append_right xs (ys ++ zs) (zs ++ ys) (IsPermutation-append_comm ys zs)))

-- one view becomes another, with more sets or less
sets_moved : (views : List View) (id : ℕ) (v w : View) (more less : List FlagSet) → get_elem? views id ≡ some v → v.sets ++ more ≡ w.sets ++ less
    → IsPermutation (sets_of views ++ more) (sets_of (set views id w) ++ less)
sets_moved [] id v w more less at same = absurd (some-ne-none v (sym at))
sets_moved (x ∷ xs) zero v w more less at same =
    let begins : x.sets ++ more ≡ w.sets ++ less = ap (λ (u : View). u.sets ++ more) (some-injective x v at) ∙ same in
    IsPermutation-trans ((x.sets ++ sets_of xs) ++ more) ((x.sets ++ more) ++ sets_of xs) ((w.sets ++ sets_of xs) ++ less)
    (swap_tails x.sets (sets_of xs) more)
    (subst (λ all. IsPermutation (all ++ sets_of xs) ((w.sets ++ sets_of xs) ++ less)) (sym begins) (swap_tails w.sets less (sets_of xs)))
sets_moved (x ∷ xs) (suc id) v w more less at same =
    subst (λ all. IsPermutation all ((x.sets ++ sets_of (set xs id w)) ++ less)) (sym (append_assoc x.sets (sets_of xs) more))
    (subst (IsPermutation (x.sets ++ (sets_of xs ++ more))) (sym (append_assoc x.sets (sets_of (set xs id w)) less))
    (IsPermutation-append_right x.sets (sets_of xs ++ more) (sets_of (set xs id w) ++ less) (sets_moved xs id v w more less at same)))

-- one view gets more sets
sets_more : (views : List View) (id : ℕ) (v w : View) (more : List FlagSet) → get_elem? views id ≡ some v → w.sets ≡ v.sets ++ more → IsPermutation (sets_of (set views id w)) (sets_of views ++ more)
sets_more views id v w more at is =
    IsPermutation-sym (sets_of views ++ more) (sets_of (set views id w))
    (subst (IsPermutation (sets_of views ++ more)) (append-nil (sets_of (set views id w))) (sets_moved views id v w more [] at (sym is ∙ sym (append-nil w.sets))))

-- one view loses its sets
sets_less : (views : List View) (id : ℕ) (v w : View) → get_elem? views id ≡ some v → w.sets ≡ [] → IsPermutation (sets_of (set views id w) ++ v.sets) (sets_of views)
sets_less views id v w at lost =
    IsPermutation-sym (sets_of views) (sets_of (set views id w) ++ v.sets)
    (subst (λ all. IsPermutation all (sets_of (set views id w) ++ v.sets)) (append-nil (sets_of views))
    (sets_moved views id v w [] v.sets at (append-nil v.sets ∙ ap (λ xs. xs ++ v.sets) (sym lost))))

sets_snoc : (views : List View) (w : View) → w.sets ≡ [] → sets_of (views ++ w ∷ []) ≡ sets_of views
sets_snoc [] w lost = append-nil w.sets ∙ lost
sets_snoc (x ∷ xs) w lost = ap (λ all. x.sets ++ all) (sets_snoc xs w lost)

nothing_set : (views : List View) → ((k : ℕ) (u : View) → get_elem? views k ≡ some u → u.sets ≡ []) → sets_of views ≡ []
nothing_set [] lost = refl
nothing_set (x ∷ xs) lost = ap (λ all. all ++ sets_of xs) (lost 0 x refl) ∙ nothing_set xs (λ k u at. lost (suc k) u at)

-- no view but one has set anything
one_set : (views : List View) (id : ℕ) (v : View) → get_elem? views id ≡ some v → ((k : ℕ) (u : View) → k ≢ id → get_elem? views k ≡ some u → u.sets ≡ []) → sets_of views ≡ v.sets
one_set [] id v at lost = absurd (some-ne-none v (sym at))
one_set (x ∷ xs) zero v at lost =
    ap (λ all. x.sets ++ all) (nothing_set xs (λ k u there. lost (suc k) u (omega arith) there)) ∙ (append-nil x.sets ∙ ap (λ (u : View). u.sets) (some-injective x v at))
one_set (x ∷ xs) (suc id) v at lost =
    ap (λ all. all ++ sets_of xs) (lost 0 x (omega arith) refl) ∙ one_set xs id v at (λ k u apart there. lost (suc k) u (λ e. apart (omega (arith, e))) there)

-- two places are set in either order
set_apart : (views : List View) (i j : ℕ) (v w : View) → i ≢ j → set (set views i v) j w ≡ set (set views j w) i v
set_apart [] i j v w apart = refl
set_apart (x ∷ xs) zero zero v w apart = absurd (apart refl)
set_apart (x ∷ xs) zero (suc j) v w apart = refl
set_apart (x ∷ xs) (suc i) zero v w apart = refl
set_apart (x ∷ xs) (suc i) (suc j) v w apart = ap (λ all. x ∷ all) (set_apart xs i j v w (λ e. apart (ap suc e)))

-- ---- the rule is kept

pub set_keeps : (handed bounds : List ℕ) (slots id : ℕ) (me : Me ℕ View) (n bits : ℕ) → n < length bounds → Within bits (slice_index bounds n) → 0 < me.0.parts
    → Allows (IsKeptBy handed bounds) slots id me n (λ k. bit_or k bits) (SetsFlags handed bounds (step slots n bits 0 none) me)
set_keeps handed bounds slots id me n bits lt new some_part s kept homes at small =
    let x : FlagSet = record { word = n; bits = bits; found = slice_index s.words n } in
    let w : View = view_of me.0.parts (me.0.sets ++ x ∷ []) in
    let views : List View = set s.views id w in
    let after = set_in s.words n bits in
    let grow : AllWithin s.words after = grows s.words n bits in
    let within : n < length s.words = omega (arith, lt, kept.count) in
    let total = parts_set s.views id me.0 w at in (
      w,
      keeps,
      tt,
      record {
        count = length-set s.words n (bit_or (slice_index s.words n) bits) ∙ kept.count;
        bounded = stays s.words bounds n bits kept.bounded new;
        in_turn = turned_as handed (sets_of s.views ++ x ∷ []) (sets_of views) after (sets_more s.views id me.0 w (x ∷ []) at refl) (turned_more handed (sets_of s.views) s.words x kept.in_turn refl);
        views_in = λ k v h. elim (at_set s.views id k w v h) [
          | inl own ↦ subst (λ (u : View). AreIn u.sets after) own.1 (one_more me.0.sets x after (still_in me.0.sets s.words after grow (kept.views_in id me.0 at)) (is_set s.words n bits within))
          | inr other ↦ still_in v.sets s.words after grow (kept.views_in k v other.1)
        ];
        parts = omega (arith, total, kept.parts);
        idle = λ k v h none. elim (at_set s.views id k w v h) [
          | inl own ↦ let same : me.0.parts ≡ v.parts = ap (λ (u : View). u.parts) own.1 in absurd (omega (arith, same, none, some_part))
          | inr other ↦ kept.idle k v other.1 none
        ];
      },
      record { sets = refl; parts = refl; held = refl; finds = found_in handed bounds s.words me.0.sets n (turns_grow handed kept.in_turn.order s.words kept.in_turn.turns) kept.bounded (kept.views_in id me.0 at) },
    )

pub split_keeps : (handed bounds : List ℕ) (id : ℕ) (v : View) → 1 < v.parts → Splits (IsKeptBy handed bounds) id v (view_of (v.parts - 1) v.sets) (view_of 1 [])
split_keeps handed bounds id v two s kept at =
    let rest = view_of (v.parts - 1) v.sets in
    let first : List View = set s.views id rest in
    let total = parts_set s.views id v rest at in
    let more = parts_snoc first (view_of 1 []) in
    record {
      count = kept.count;
      bounded = kept.bounded;
      in_turn = turned_as handed (sets_of s.views) (sets_of (first ++ view_of 1 [] ∷ [])) s.words
          (subst (λ all. IsPermutation all (sets_of s.views)) (sym (sets_snoc first (view_of 1 []) refl))
          (subst (IsPermutation (sets_of first)) (append-nil (sets_of s.views)) (sets_more s.views id v rest [] at (sym (append-nil v.sets))))) kept.in_turn;
      views_in = λ k u h. elim (at_snoc first (view_of 1 []) u k h) [
        | inl old ↦ elim (at_set s.views id k rest u old) [
          | inl own ↦ subst (λ (w : View). AreIn w.sets s.words) own.1 (kept.views_in id v at)
          | inr other ↦ kept.views_in k u other.1
        ]
        | inr new ↦ subst (λ (w : View). AreIn w.sets s.words) new (nothing_in s.words)
      ];
      parts = omega (arith, total, more, kept.parts, two);
      idle = λ k u h none. elim (at_snoc first (view_of 1 []) u k h) [
        | inl old ↦ elim (at_set s.views id k rest u old) [
          | inl own ↦ let same : v.parts - 1 ≡ u.parts = ap (λ (w : View). w.parts) own.1 in absurd (omega (arith, same, none, two))
          | inr other ↦ kept.idle k u other.1 none
        ]
        | inr new ↦ let same : 1 ≡ u.parts = ap (λ (w : View). w.parts) new in absurd (omega (arith, same, none))
      ];
    }

pub join_keeps : (handed bounds : List ℕ) (id : ℕ) (v : View) (other : ℕ) (w : View)
    → Joins (IsKeptBy handed bounds) id v other w (view_of (v.parts + w.parts) (v.sets ++ w.sets)) (view_of 0 [])
join_keeps handed bounds id v other w s kept at apart there =
    let P : FlagSet → Type 0 = λ x. Within x.bits (slice_index s.words x.word) in
    let both = view_of (v.parts + w.parts) (v.sets ++ w.sets) in
    let spent = view_of 0 [] in
    let first : List View = set s.views id both in
    let after : List View = set first other spent in
    let their_place : get_elem? s.views other ≡ some w = sym (set_else s.views id other both apart) ∙ there in
    let total = parts_set s.views id v both at in
    let less = parts_set first other w spent there in
    let middle : List View = set s.views other spent in
    let mine : get_elem? middle id ≡ some v = set_else s.views other id spent (λ e. apart (sym e)) ∙ at in
    let either : set middle id both ≡ after = set_apart s.views other id spent both apart in
    let moved : IsPermutation (sets_of after) (sets_of s.views)
    = subst (λ (all : List View). IsPermutation (sets_of all) (sets_of s.views)) either (IsPermutation-trans (sets_of (set middle id both)) (sets_of middle ++ w.sets) (sets_of s.views)
    (sets_more middle id v both w.sets mine refl) (sets_less s.views other w spent their_place refl)) in
    record {
      count = kept.count;
      bounded = kept.bounded;
      in_turn = turned_as handed (sets_of s.views) (sets_of after) s.words moved kept.in_turn;
      views_in = λ k u h. elim (at_set first other k spent u h) [
        | inl gone ↦ subst (λ (x : View). AreIn x.sets s.words) gone.1 (nothing_in s.words)
        | inr rest ↦ elim (at_set s.views id k both u rest.1) [
          | inl own ↦ subst (λ (x : View). AreIn x.sets s.words) own.1 (All-append P v.sets w.sets (kept.views_in id v at) (kept.views_in other w their_place))
          | inr old ↦ kept.views_in k u old.1
        ]
      ];
      parts = omega (arith, total, less, kept.parts);
      idle = λ k u h none. elim (at_set first other k spent u h) [
        | inl gone ↦ subst (λ (x : View). x.sets ≡ []) gone.1 refl
        | inr rest ↦ elim (at_set s.views id k both u rest.1) [
          | inl own ↦
              let same : v.parts + w.parts ≡ u.parts = ap (λ (x : View). x.parts) own.1 in
              let mine : v.sets ≡ [] = kept.idle id v at (omega (arith, same, none)) in
              let theirs : w.sets ≡ [] = kept.idle other w their_place (omega (arith, same, none)) in
              subst (λ (x : View). x.sets ≡ []) own.1 (ap (λ xs. xs ++ w.sets) mine ∙ theirs)
          | inr old ↦ kept.idle k u old.1 none
        ]
      ];
    }

-- the one view at the start
first_view : (k : ℕ) (v u : View) → get_elem? (v ∷ []) k ≡ some u → v ≡ u
first_view zero v u h = some-injective v u h
first_view (suc k) v u h = absurd (some-ne-none u (sym h))

starts_in_turn : (handed : List ℕ) → AreInTurn handed [] handed
unfolding InTurn
starts_in_turn handed = record { order = []; same = IsPermutation-refl []; turns = refl }

pub starts_kept : (handed bounds : List ℕ) → length handed ≡ length bounds → AllWithin handed bounds → IsKept handed bounds handed (view_of all_parts [] ∷ [])
starts_kept handed bounds count within =
    let first = view_of all_parts [] in
    record {
      count = count;
      bounded = within;
      in_turn = starts_in_turn handed;
      views_in = λ k u h. subst (λ (w : View). AreIn w.sets handed) (first_view k first u h) (nothing_in handed);
      parts = refl;
      idle = λ k u h none. subst (λ (w : View). w.sets ≡ []) (first_view k first u h) refl;
    }

-- ---- the end

pub left_words : (handed bounds : List ℕ) (id : ℕ) (v : View) (words room : List ℕ) (s : State ℕ View) → IsKeptBy handed bounds s → get_elem? s.views id ≡ some v → s.words ≡ words → room ≡ words
    → AreLeft handed bounds v.sets room
left_words handed bounds id v words room s kept at is all =
    let same : s.words ≡ room = is ∙ sym all in
    record {
      count = ap length (sym same) ∙ kept.count;
      handed_in = subst (AllWithin handed) same (turns_grow handed kept.in_turn.order s.words kept.in_turn.turns);
      bounded = subst (λ ws. AllWithin ws bounds) same kept.bounded;
      own = subst (AreIn v.sets) same (kept.views_in id v at);
    }

-- a view with all parts has set all that was set
pub all_in_turn : (handed bounds : List ℕ) (id : ℕ) (v : View) (words room : List ℕ) (s : State ℕ View) → IsKeptBy handed bounds s → get_elem? s.views id ≡ some v → s.words ≡ words → room ≡ words
    → v.parts ≡ all_parts → AreInTurn handed v.sets room
all_in_turn handed bounds id v words room s kept at is all whole =
    let alone : sets_of s.views ≡ v.sets
    = one_set s.views id v at (λ k u apart there.
    let few = both_in s.views id k v u apart at there in
    kept.idle k u there (omega (arith, few, whole, kept.parts))) in
    subst (λ xs. AreInTurn handed xs room) alone (subst (AreInTurn handed (sets_of s.views)) (is ∙ sym all) kept.in_turn)

read_elem : (from : List ℕ) (i a : ℕ) → get_elem? from i ≡ some a → get_or from i 0 ≡ a
read_elem [] i a h = absurd (some-ne-none a (sym h))
read_elem (x ∷ xs) zero a h = some-injective x a h
read_elem (x ∷ xs) (suc i) a h = read_elem xs i a h

-- words are moved one by one
pub moved_more : (room from : List ℕ) (place a : ℕ) → place < length room → ((k : ℕ) → k < place → get_or room k 0 ≡ get_or from k 0) → get_elem? from place ≡ some a
    → (k : ℕ) → k < place + 1 → get_or (set room place a) k 0 ≡ get_or from k 0
moved_more room from place a lt before read k below = elim (cases_eq k place) [
  | inl same ↦
      let here : get_or (set room place a) place 0 ≡ get_or from place 0 = get_or-set_same room place a 0 lt ∙ sym (read_elem from place a read) in
      subst (λ n. get_or (set room place a) n 0 ≡ get_or from n 0) (sym same) here
  | inr other ↦ get_or-set_other room place k a 0 other ∙ before k (omega (arith, below, other))
]
