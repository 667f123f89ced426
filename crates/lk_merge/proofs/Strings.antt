-- The strings that are taken of some data one after the other, and pieces that are added in that order.
use Rattle.std.proofs.Common.{◌≡◌, ◌≢◌, ℕ, zero, suc, ◌+◌, ◌≤◌, ◌<◌, List, [], ◌∷◌, ◌++◌, length, map, take, get_or, Some, refl, sym, ap, ◌∙◌, subst, arith, append_assoc, append-nil, length-append}
use Rattle.std.specs.List.{concat, slice_get, Contains}
use Rattle.std.proofs.lemmas.List.{map_more}
use Rattle.lk_merge.specs.declared.merging.Merging.{Merging as Merges}
use Rattle.lk_merge.specs.declared.string.MergeString.{MergeString}
use Rattle.lk_merge.specs.Buckets.{piece_of}
use Rattle.lk_merge.specs.Inputs.{Located, located_in}
use Rattle.lk_merge.specs.MergingTables.{AreAdded, AreTaken, HasMerged, TookStrings}
use Rattle.lk_merge.specs.Pieces.{Piece, IsString, cut, lengthen}
use Rattle.lk_merge.proofs.AmongLemmas.{concat-append}
use Rattle.lk_merge.proofs.Constants.{located_one}
use Rattle.lk_merge.proofs.InputLemmas.{located_in_none, located_in_append}
use Rattle.lk_merge.proofs.PieceLemmas.{cut_none, cut_other, cut-string}

pub string_some : (p : Piece) → IsString p → 0 < length p
string_some p h = let n : length p ≡ length h.text + 1 = ap length h.ends ∙ length-append h.text (0 ∷ []) in omega (arith, n)

-- data without a zero byte have no strings
pub cut_no_zero : (bytes : List ℕ) → ¬ Contains bytes 0 → cut bytes ≡ []
cut_no_zero [] h = cut_none
cut_no_zero (b ∷ bytes) h =
    let nonzero : b ≢ 0 = λ e. h (0, omega arith, e) in
    let below : ¬ Contains bytes 0 = λ c. h (suc c.0, omega (arith, c.1), c.2) in
    cut_other b bytes nonzero ∙ ap (lengthen b) (cut_no_zero bytes below)

cut_all : (taken : List Piece) (rest : List ℕ) → ((k : ℕ) (p : Piece) → slice_get taken k ≡ Some p → IsString p) → cut (concat taken ++ rest) ≡ taken ++ cut rest
cut_all [] rest each = refl
cut_all (p ∷ taken) rest each =
    ap cut (append_assoc p (concat taken) rest) ∙ cut-string p (concat taken ++ rest) (each 0 p refl)
    ∙ ap (λ l. p ∷ l) (cut_all taken rest (λ k q h. each (suc k) q h))

each-append : (ps qs : List Piece) (k : ℕ) (q : Piece) → slice_get (ps ++ qs) k ≡ Some q → ((j : ℕ) (r : Piece) → slice_get ps j ≡ Some r → IsString r)
    → ((j : ℕ) (r : Piece) → slice_get qs j ≡ Some r → IsString r) → IsString q
each-append [] qs k q h first last = last k q h
each-append (r ∷ ps) qs zero q h first last = first 0 q h
each-append (r ∷ ps) qs (suc k) q h first last = each-append ps qs k q h (λ j s t. first (suc j) s t) last

-- ---- strings that are taken

pub taken_none : (bytes : List ℕ) → AreTaken bytes [] bytes
taken_none bytes = record { each = λ k p h. absurd (cc); whole = refl }

pub taken_join : (bytes mid rest : List ℕ) (ps qs : List Piece) → AreTaken bytes ps mid → AreTaken mid qs rest → AreTaken bytes (ps ++ qs) rest
taken_join bytes mid rest ps qs h g = record {
  each = λ k q there. each-append ps qs k q there h.each g.each;
  whole = h.whole ∙ ap (λ l. concat ps ++ l) g.whole ∙ sym (append_assoc (concat ps) (concat qs) rest) ∙ ap (λ l. l ++ rest) (sym (concat-append ps qs));
}

pub taken_more : (bytes rest more : List ℕ) (ps : List Piece) (p : Piece) → AreTaken bytes ps rest → IsString p → rest ≡ p ++ more → AreTaken bytes (ps ++ p ∷ []) more
taken_more bytes rest more ps p h string split = taken_join bytes rest more ps (p ∷ []) h (record {
  each = λ k q there. one k q there;
  whole = split ∙ ap (λ l. l ++ more) (sym (append-nil p));
})
  where
    one : (k : ℕ) (q : Piece) → slice_get (p ∷ []) k ≡ Some q → IsString q
    one zero q there = let same : p ≡ q = cc in subst IsString same string
    one (suc k) q there = absurd (cc)

-- those of the data, where none is left
pub taken_all : (bytes rest : List ℕ) (ps : List Piece) → AreTaken bytes ps rest → ¬ Contains rest 0 → ps ≡ cut bytes
taken_all bytes rest ps h none =
    sym (append-nil ps) ∙ ap (λ l. ps ++ l) (sym (cut_no_zero rest none)) ∙ sym (cut_all ps rest h.each) ∙ ap cut (sym h.whole)

pub taken_fit : (bytes rest : List ℕ) (ps : List Piece) → AreTaken bytes ps rest → length bytes ≡ length (concat ps) + length rest
taken_fit bytes rest ps h = ap length h.whole ∙ length-append (concat ps) rest

-- some are fewer than all
pub taken_less : (bytes rest : List ℕ) (ss : List MergeString) → AreTaken bytes (map piece_of ss) rest → length ss ≢ 0 → length rest < length bytes
taken_less bytes rest [] h some = absurd (some refl)
taken_less bytes rest (s ∷ ss) h some =
    let n = taken_fit bytes rest (map piece_of (s ∷ ss)) h in
    let more : length (s.bytes.now ++ concat (map piece_of ss)) ≡ length s.bytes.now + length (concat (map piece_of ss)) = length-append s.bytes.now (concat (map piece_of ss)) in
    let one : 0 < length s.bytes.now = string_some s.bytes.now (h.each 0 s.bytes.now refl) in
    omega (arith, n, more, one)

-- ---- pieces that are added

pub added_none : (input from : ℕ) (old : Merges) → AreAdded input from old [] from old
added_none input from old = record {
  at = omega arith;
  count = refl;
  made = λ section limit done h. subst (λ l. HasMerged section limit l old) (sym (append-nil done) ∙ ap (λ l. done ++ l) (sym (located_in_none input from))) h;
}

pub added_join : (input from mid end : ℕ) (old half new : Merges) (ps qs : List Piece) → AreAdded input from old ps mid half → AreAdded input mid half qs end new
    → AreAdded input from old (ps ++ qs) end new
added_join input from mid end old half new ps qs h g = record {
  at = let n : length (concat (ps ++ qs)) ≡ length (concat ps) + length (concat qs) = ap length (concat-append ps qs) ∙ length-append (concat ps) (concat qs) in omega (arith, h.at, g.at, n);
  count = g.count ∙ h.count;
  made = λ section limit done merged.
      let wide : (done ++ located_in input from ps) ++ located_in input mid qs ≡ done ++ located_in input from (ps ++ qs)
      = append_assoc done (located_in input from ps) (located_in input mid qs)
      ∙ ap (λ n. done ++ (located_in input from ps ++ located_in input n qs)) h.at ∙ ap (λ l. done ++ l) (sym (located_in_append input from ps qs)) in
      subst (λ l. HasMerged section limit l new) wide (g.made section limit (done ++ located_in input from ps) (h.made section limit done merged));
}

pub added_one : (input at : ℕ) (old new : Merges) (p : Piece) → length new.buckets.items ≡ length old.buckets.items
    → ((section limit : ℕ) (done : List Located) → HasMerged section limit done old
    → HasMerged section limit (done ++ record { input = input; start = at; piece = p } ∷ []) new)
    → AreAdded input at old (p ∷ []) (at + length p) new
added_one input at old new p count made = record {
  at = let n : length (p ++ []) ≡ length p = ap length (append-nil p) in omega (arith, n);
  count = count;
  made = λ section limit done merged. subst (λ l. HasMerged section limit (done ++ l) new) (sym (located_one input at p)) (made section limit done merged);
}

pub added_next : (input from at : ℕ) (old mid new : Merges) (ss : List MergeString) (k : ℕ) (s : MergeString) → k < length ss → s ≡ get_or ss k s
    → AreAdded input from old (map piece_of (take k ss)) at mid → length new.buckets.items ≡ length mid.buckets.items
    → ((section limit : ℕ) (done : List Located) → HasMerged section limit done mid
    → HasMerged section limit (done ++ record { input = input; start = at; piece = s.bytes.now } ∷ []) new)
    → AreAdded input from old (map piece_of (take (k + 1) ss)) (at + length s.bytes.now) new
added_next input from at old mid new ss k s within is h count made =
    let more : map piece_of (take (k + 1) ss) ≡ map piece_of (take k ss) ++ s.bytes.now ∷ []
    = map_more piece_of ss k s within ∙ ap (λ (x : MergeString). map piece_of (take k ss) ++ x.bytes.now ∷ []) (sym is) in
    subst (λ l. AreAdded input from old l (at + length s.bytes.now) new) (sym more)
    (added_join input from at (at + length s.bytes.now) old mid new (map piece_of (take k ss)) (s.bytes.now ∷ []) h (added_one input at mid new s.bytes.now count made))

-- the pieces before one, and that one, are within all
pub fits_next : (ss : List MergeString) (k : ℕ) (s : MergeString) → k < length ss → s ≡ get_or ss k s
    → length (concat (map piece_of (take k ss))) + length s.bytes.now ≤ length (concat (map piece_of ss))
fits_next [] k s within is = absurd (omega arith)
fits_next (r ∷ ss) zero s within is =
    let more : length (r.bytes.now ++ concat (map piece_of ss)) ≡ length r.bytes.now + length (concat (map piece_of ss)) = length-append r.bytes.now (concat (map piece_of ss)) in
    let same : length s.bytes.now ≡ length r.bytes.now = ap (λ (x : MergeString). length x.bytes.now) is in
    omega (arith, more, same)
fits_next (r ∷ ss) (suc k) s within is =
    let more : length (r.bytes.now ++ concat (map piece_of ss)) ≡ length r.bytes.now + length (concat (map piece_of ss)) = length-append r.bytes.now (concat (map piece_of ss)) in
    let fewer : length (r.bytes.now ++ concat (map piece_of (take k ss))) ≡ length r.bytes.now + length (concat (map piece_of (take k ss)))
    = length-append r.bytes.now (concat (map piece_of (take k ss))) in
    let rest = fits_next ss k s (omega arith) is in
    omega (arith, more, fewer, rest)

-- ---- both

module _ (bytes : List ℕ) (input from : ℕ) (old : Merges) where
  pub took_none : TookStrings bytes input from old bytes from old
  took_none = record { taken = []; strings = taken_none bytes; added = added_none input from old }

  pub took_more : (rest more : List ℕ) (at end : ℕ) (mid new : Merges) (qs : List Piece) → TookStrings bytes input from old rest at mid → AreTaken rest qs more
      → AreAdded input at mid qs end new → TookStrings bytes input from old more end new
  took_more rest more at end mid new qs h taken added = record {
    taken = h.taken ++ qs;
    strings = taken_join bytes rest more h.taken qs h.strings taken;
    added = added_join input from at end old mid new h.taken qs h.added added;
  }

  pub took_fits : (rest more : List ℕ) (at : ℕ) (mid : Merges) (qs : List Piece) → TookStrings bytes input from old rest at mid → AreTaken rest qs more
      → at + length (concat qs) ≤ from + length bytes
  took_fits rest more at mid qs h taken =
      let all = taken_fit bytes rest h.taken h.strings in
      let left = taken_fit rest more qs taken in
      omega (arith, all, left, h.added.at)

  pub took_all : (rest more : List ℕ) (at : ℕ) (new : Merges) (qs : List Piece) → TookStrings bytes input from old rest at new → AreTaken rest qs more → length qs ≡ 0 → ¬ Contains more 0
      → (section limit : ℕ) (done : List Located) → HasMerged section limit done old → HasMerged section limit (done ++ located_in input from (cut bytes)) new
  took_all rest more at new [] h taken empty none section limit done merged =
      let same : h.taken ++ [] ≡ cut bytes = taken_all bytes more (h.taken ++ []) (taken_join bytes rest more h.taken [] h.strings taken) none in
      subst (λ ps. HasMerged section limit (done ++ located_in input from ps) new) (sym (append-nil h.taken) ∙ same) (h.added.made section limit done merged)
  took_all rest more at new (q ∷ qs) h taken empty none section limit done merged = absurd (omega (arith, empty))

-- a string that was taken has bytes
pub taken_some : (bytes rest : List ℕ) (ss : List MergeString) → AreTaken bytes (map piece_of ss) rest
    → (k : ℕ) (s : MergeString) → slice_get ss k ≡ Some s → 0 < length s.bytes.now
taken_some bytes rest ss h k s there = string_some s.bytes.now (h.each k s.bytes.now (in_map ss k s there))
  where
    in_map : (ss : List MergeString) (k : ℕ) (s : MergeString) → slice_get ss k ≡ Some s → slice_get (map piece_of ss) k ≡ Some s.bytes.now
    in_map [] k s h = absurd (cc)
    in_map (r ∷ ss) zero s h = let same : r ≡ s = cc in ap (λ (x : MergeString). Some x.bytes.now) same
    in_map (r ∷ ss) (suc k) s h = in_map ss k s h
