-- What a group of inputs brings.
use Rattle.std.proofs.Common.{◌≡◌, ℕ, zero, suc, ◌+◌, ◌%◌, ◌-◌, ◌≤◌, ◌<◌, true, false, cond, leb, ltb, ◌&&◌, List, [], ◌∷◌, ◌++◌, length, map, set, take, drop, get_or, Some, Vec, Global, refl, sym, ap, ◌∙◌, subst, arith, inl, inr, append-nil, append_assoc, length-append}
use Rattle.std.specs.List.{Contains, list_all, slice_get}
use Rattle.std.proofs.lemmas.Bool.{cases_lt, le-leb, lt-leb, lt-ltb, ne_eqb, eq-eqb}
use Rattle.std.proofs.lemmas.Bool.Decides.{eqb_tells}
use Rattle.std.proofs.lemmas.List.{length-map, length-set, length-take-le, map-append, take-append-drop, take_all}
use Rattle.std.proofs.lemmas.List.Elements.{filter-append}
use Rattle.std.proofs.lemmas.Option.{slice_get_within}
use Rattle.lk_merge.specs.declared.group_strings.GroupStrings.{GroupStrings as Brings}
use Rattle.lk_merge.specs.declared.inputs.StringMergeInputSection.{StringMergeInputSection}
use Rattle.lk_merge.specs.declared.string.MergeString.{MergeString}
use Rattle.lk_merge.specs.Between.{between, from_on, until}
use Rattle.lk_merge.specs.GroupStrings.{BroughtUntil, HasBrought}
use Rattle.lk_merge.specs.GroupTables.{IsInputAt}
use Rattle.lk_merge.specs.Hash.{fnv64}
use Rattle.lk_merge.specs.Image.{in_bucket}
use Rattle.lk_merge.specs.Inputs.{AreInputs, Located, input_of, located, located_from, located_in, padded_total}
use Rattle.lk_merge.specs.MatrixCells.{pieces_of_strings}
use Rattle.lk_merge.specs.MergingTables.{pieces_in}
use Rattle.lk_merge.specs.PieceStarts.{HasStarts}
use Rattle.lk_merge.specs.Pieces.{IsString, MergeInput, Piece, cut, is_terminated, pieces_of}
use Rattle.lk_merge.proofs.Covering.{none_inside}
use Rattle.lk_merge.proofs.GoodPieces.{good_pieces}
use Rattle.lk_merge.proofs.GroupCuts.{between_is, from_all, until_next, until_none}
use Rattle.lk_merge.proofs.Growing.{bucket_more, set_at, set_other, some_same}
use Rattle.lk_merge.proofs.LaidOut.{input_starts, located_next}
use Rattle.lk_merge.proofs.LocatedLemmas.{HaveGoodPieces, between_from, located_from_append}
use Rattle.lk_merge.proofs.PieceLemmas.{cut-string}
use Rattle.lk_merge.proofs.Strings.{cut_no_zero}

-- ---- one piece more

pub brought_none : (g : Brings) → length g.buckets.items ≡ 16 → ((b : ℕ) (found : Vec MergeString Global) → slice_get g.buckets.items b ≡ Some found → found.items ≡ [])
    → HasStarts [] g.starts → HasBrought [] g
brought_none g count each starts = record {
  count = count;
  each = λ b found there. ap pieces_of_strings (each b found there);
  starts = starts;
}

module _ (done : List Located) (old new : Brings) (s : MergeString) (input start : ℕ) (found after : Vec MergeString Global) where
  abbrev own : ℕ
  own = fnv64 s.bytes.now % 16

  abbrev here : Located
  here = record { input = input; start = start; piece = s.bytes.now }

  more_pieces : pieces_in (done ++ here ∷ []) ≡ pieces_in done ++ s.bytes.now ∷ []
  more_pieces = map-append (λ (l : Located). l.piece) done (here ∷ [])

  pub brought_more : HasBrought done old → slice_get old.buckets.items own ≡ Some found → after.items ≡ found.items ++ s ∷ []
      → new.buckets.items ≡ set old.buckets.items own after → (HasStarts done old.starts → HasStarts (done ++ here ∷ []) new.starts) → HasBrought (done ++ here ∷ []) new
  brought_more h at pushed buckets starts =
      let within : own < length old.buckets.items = slice_get_within old.buckets.items own found at in
      record {
        count = ap length buckets ∙ length-set old.buckets.items own after ∙ h.count;
        each = λ b v there. elim (eqb_tells own b) [
          | inl hit ↦
              let set_here : slice_get new.buckets.items b ≡ Some after = ap (slice_get new.buckets.items) (sym hit.1) ∙ ap (λ l. slice_get l own) buckets ∙ set_at old.buckets.items own after within in
              let same : after ≡ v = some_same after v (sym set_here ∙ there) in
              let mine : pieces_of_strings found.items ≡ in_bucket fnv64 b (pieces_in done) = h.each own found at ∙ ap (λ k. in_bucket fnv64 k (pieces_in done)) hit.1 in
              ap (λ (x : Vec MergeString Global). pieces_of_strings x.items) (sym same) ∙ ap pieces_of_strings pushed ∙ map-append (λ (x : MergeString). x.bytes.now) found.items (s ∷ [])
              ∙ ap (λ l. l ++ s.bytes.now ∷ []) mine
              ∙ sym (bucket_more (pieces_in done) s.bytes.now b true (eq-eqb own b hit.1)) ∙ ap (in_bucket fnv64 b) (sym more_pieces)
          | inr miss ↦
              let kept : slice_get old.buckets.items b ≡ Some v = sym (set_other old.buckets.items own b after (λ e. miss.1 (sym e))) ∙ ap (λ l. slice_get l b) (sym buckets) ∙ there in
              h.each b v kept ∙ sym (append-nil (in_bucket fnv64 b (pieces_in done)))
              ∙ sym (bucket_more (pieces_in done) s.bytes.now b false (ne_eqb own b miss.1)) ∙ ap (in_bucket fnv64 b) (sym more_pieces)
        ];
        starts = starts h.starts;
      }

-- ---- the strings of some data

module _ (bytes : List ℕ) (input start end : ℕ) (old : Brings) where
  pub until_begun : BroughtUntil bytes input start end old bytes start old
  until_begun = record {
    so_far = [];
    all = refl;
    fits = refl;
    count = refl;
    made = λ done h. subst (λ l. HasBrought l old) (sym (append-nil done)) h;
  }

  pub until_more : (rest more : List ℕ) (at next : ℕ) (mid new : Brings) (p : Piece) → BroughtUntil bytes input start end old rest at mid → at < end → IsString p → rest ≡ p ++ more
      → next ≡ at + length p → length new.buckets.items ≡ length mid.buckets.items
      → ((done : List Located) → HasBrought done mid → HasBrought (done ++ record { input = input; start = at; piece = p } ∷ []) new)
      → BroughtUntil bytes input start end old more next new
  until_more rest more at next mid new p h before string split is count made =
      let here : Located = record { input = input; start = at; piece = p } in
      let n : length rest ≡ length p + length more = ap length split ∙ length-append p more in
      record {
        so_far = h.so_far ++ here ∷ [];
        all = h.all ∙ ap (λ l. h.so_far ++ until end (located_in input at (cut l))) split
            ∙ ap (λ ps. h.so_far ++ until end (located_in input at ps)) (cut-string p more string)
            ∙ ap (λ (ls : List Located). h.so_far ++ ls) (until_next end input at p (cut more) before)
            ∙ ap (λ k. h.so_far ++ here ∷ until end (located_in input k (cut more))) (sym is)
            ∙ sym (append_assoc h.so_far (here ∷ []) (until end (located_in input next (cut more))));
        fits = omega (arith, h.fits, n, is);
        count = count ∙ h.count;
        made = λ done brought. subst (λ l. HasBrought l new) (append_assoc done h.so_far (here ∷ [])) (made (done ++ h.so_far) (h.made done brought));
      }

  until_done : (rest : List ℕ) (at : ℕ) (new : Brings) → BroughtUntil bytes input start end old rest at new → until end (located_in input at (cut rest)) ≡ []
      → (done : List Located) → HasBrought done old → HasBrought (done ++ until end (located_in input start (cut bytes))) new
  until_done rest at new h none done brought =
      subst (λ l. HasBrought (done ++ l) new) (sym (append-nil h.so_far) ∙ ap (λ l. h.so_far ++ l) (sym none) ∙ sym h.all) (h.made done brought)

  pub until_end : (rest : List ℕ) (at : ℕ) (new : Brings) → BroughtUntil bytes input start end old rest at new → end ≤ at
      → (done : List Located) → HasBrought done old → HasBrought (done ++ until end (located_in input start (cut bytes))) new
  until_end rest at new h past = until_done rest at new h (until_none end input at (cut rest) past)

  pub until_last : (rest : List ℕ) (at : ℕ) (new : Brings) → BroughtUntil bytes input start end old rest at new → ¬ Contains rest 0
      → (done : List Located) → HasBrought done old → HasBrought (done ++ until end (located_in input start (cut bytes))) new
  unfolding located_in
  until_last rest at new h none = until_done rest at new h (ap (λ ps. until end (located_in input at ps)) (cut_no_zero rest none))

-- ---- the pieces of an input

pub between_rest : (a b k at : ℕ) (skipped : ℕ) (ps qs : List Piece) → from_on a (located_in k at ps) ≡ located_in k (at + skipped) qs
    → between a b (located_in k at ps) ≡ until b (located_in k (at + skipped) qs)
between_rest a b k at skipped ps qs e = between_is a b (located_in k at ps) ∙ ap (until b) e

-- the same where the offset is told as one behind the start of the pieces
pub rest_from : (a k at skipped : ℕ) (ps qs : List Piece) → from_on (at + (a - at)) (located_in k at ps) ≡ located_in k (at + skipped) qs
    → from_on a (located_in k at ps) ≡ located_in k (at + skipped) qs
rest_from a k at skipped ps qs e = elim (cases_lt at a) [
  | inl below ↦ ap (λ n. from_on n (located_in k at ps)) (let same : a ≡ at + (a - at) = omega (arith, below) in same) ∙ e
  | inr from ↦ from_all a k at ps from ∙ sym (from_all (at + (a - at)) k at ps (omega (arith, from))) ∙ e
]

pub one_in : (a b : ℕ) (l : Located) → a ≤ l.start → l.start < b → between a b (l ∷ []) ≡ l ∷ []
one_in a b l from to = ap (λ t. cond (t && ltb l.start b) (l ∷ []) []) (le-leb a l.start from) ∙ ap (λ t. cond t (l ∷ []) []) (lt-ltb l.start b to)

pub one_before : (a b : ℕ) (l : Located) → l.start < a → between a b (l ∷ []) ≡ []
one_before a b l before = ap (λ t. cond (t && ltb l.start b) (l ∷ []) []) (lt-leb a l.start before)

pub one_past : (a b : ℕ) (l : Located) → b ≤ l.start → between a b (l ∷ []) ≡ []
one_past a b l far = none_inside a b (l ∷ []) each
  where
    each : (k : ℕ) (m : Located) → slice_get (l ∷ []) k ≡ Some m → b ≤ m.start
    each zero m e = let same : l ≡ m = cc in subst (λ (x : Located). b ≤ x.start) same far
    each (suc k) m e = absurd (cc)

-- what an input has brought is told in other words
pub made_same : (xs ys : List Located) (old new : Brings) → xs ≡ ys → ((done : List Located) → HasBrought done old → HasBrought (done ++ xs) new)
    → (done : List Located) → HasBrought done old → HasBrought (done ++ ys) new
made_same xs ys old new e h done brought = subst (λ l. HasBrought (done ++ l) new) e (h done brought)

pub made_none : (old : Brings) (done : List Located) → HasBrought done old → HasBrought (done ++ []) old
made_none old done h = subst (λ l. HasBrought l old) (sym (append-nil done)) h

-- ---- the inputs of a group

take_map : (ss : List StringMergeInputSection) (k : ℕ) → map input_of (take k ss) ≡ take k (map input_of ss)
take_map ss zero = refl
take_map [] (suc k) = refl
take_map (s ∷ ss) (suc k) = ap (λ (xs : List MergeInput). input_of s ∷ xs) (take_map ss k)

at_of_take : (xs : List MergeInput) (n k : ℕ) (x : MergeInput) → slice_get (take n xs) k ≡ Some x → slice_get xs k ≡ Some x
at_of_take xs zero k x h = absurd (cc)
at_of_take [] (suc n) k x h = h
at_of_take (y ∷ xs) (suc n) zero x h = h
at_of_take (y ∷ xs) (suc n) (suc k) x h = at_of_take xs n k x h

at_of_drop : (xs : List MergeInput) (n k : ℕ) (x : MergeInput) → slice_get (drop n xs) k ≡ Some x → (j : ℕ) × (slice_get xs j ≡ Some x)
at_of_drop xs zero k x h = (k, h)
at_of_drop [] (suc n) k x h = (k, h)
at_of_drop (y ∷ xs) (suc n) k x h = let r = at_of_drop xs n k x h in (suc r.0, r.1)

-- pieces that start before all of a group aren't in it
none_before : (a b : ℕ) (ls : List Located) → ((k : ℕ) (l : Located) → slice_get ls k ≡ Some l → l.start < a) → between a b ls ≡ []
none_before a b [] h = refl
none_before a b (l ∷ ls) h =
    ap (λ t. cond (t && ltb l.start b) (l ∷ between a b ls) (between a b ls)) (lt-leb a l.start (h 0 l refl)) ∙ none_before a b ls (λ k m e. h (suc k) m e)

module _ (a b total : ℕ) (ss : List StringMergeInputSection) (are : AreInputs total ss) (terminated : list_all is_terminated (map input_of ss) ≡ true) where
  abbrev xs : List MergeInput
  xs = map input_of ss

  -- none of the inputs before the one that the group starts in
  pub inputs_begun : (first : ℕ) → IsInputAt xs a first → between a b (located (map input_of (take first ss))) ≡ []
  inputs_begun first h =
      let good : HaveGoodPieces (take first xs) = λ k x at. good_pieces xs terminated k x (at_of_take xs first k x at) in
      ap (λ (zs : List MergeInput). between a b (located zs)) (take_map ss first)
      ∙ none_before a b (located (take first xs)) (λ k l at.
      let is = between_from 0 0 (take first xs) k l good at in
      let some = is.some in let to = is.to in let from = h.from in omega (arith, some, to, from))

  pub inputs_more : (k : ℕ) (s : StringMergeInputSection) → k < length ss → s ≡ get_or ss k s
      → between a b (located (map input_of (take (k + 1) ss)))
      ≡ between a b (located (map input_of (take k ss))) ++ between a b (located_in k s.start_input_offset (pieces_of (input_of s)))
  inputs_more k s within is =
      ap (between a b) (located_next total ss k s are within is)
      ∙ filter-append (λ (l : Located). leb a l.start && ltb l.start b) (located (map input_of (take k ss))) (located_in k s.start_input_offset (pieces_of (input_of s)))

  -- none of the inputs from the first on that starts behind the group
  pub inputs_over : (k : ℕ) (s : StringMergeInputSection) → k < length ss → s ≡ get_or ss k s → b ≤ s.start_input_offset
      → between a b (located (map input_of (take k ss))) ≡ between a b (located xs)
  inputs_over k s within is past =
      let start : s.start_input_offset ≡ padded_total (take k xs) = input_starts total ss k s are within is ∙ ap padded_total (take_map ss k) in
      let count : length (take k xs) ≡ k = length-take-le k xs (let n : length xs ≡ length ss = length-map ss input_of in omega (arith, n, within)) in
      let good : HaveGoodPieces (drop k xs) = λ j x at. let r = at_of_drop xs k j x at in good_pieces xs terminated r.0 x r.1 in
      let all : located xs ≡ located (take k xs) ++ located_from k (0 + padded_total (take k xs)) (drop k xs)
      = ap located (sym (take-append-drop k xs)) ∙ located_from_append 0 0 k (take k xs) (drop k xs) (omega (arith, count)) in
      let none : between a b (located_from k (0 + padded_total (take k xs)) (drop k xs)) ≡ []
      = none_inside a b (located_from k (0 + padded_total (take k xs)) (drop k xs)) (λ j l at. let is = between_from k (0 + padded_total (take k xs)) (drop k xs) j l good at in let from = is.from in omega (arith, from, start, past)) in
      ap (λ (zs : List MergeInput). between a b (located zs)) (take_map ss k) ∙ sym (append-nil (between a b (located (take k xs))))
      ∙ ap (λ (ls : List Located). between a b (located (take k xs)) ++ ls) (sym none)
      ∙ sym (filter-append (λ (l : Located). leb a l.start && ltb l.start b) (located (take k xs)) (located_from k (0 + padded_total (take k xs)) (drop k xs)))
      ∙ ap (between a b) (sym all)

  pub inputs_all : (k : ℕ) → length ss ≤ k → between a b (located (map input_of (take k ss))) ≡ between a b (located xs)
  inputs_all k over = ap (λ (zs : List StringMergeInputSection). between a b (located (map input_of zs))) (take_all k ss over)
