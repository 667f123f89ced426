-- The first overlap of ranges, found among neighbours in the order of starts.
use Rattle.std.proofs.Common.{◌≡◌, ◌≢◌, ℕ, zero, suc, ◌+◌, ◌<◌, ◌≤◌, ◌⊎◌, Bool, true, false, cond, List, [], ◌∷◌, length, get_or, refl, sym, ◌∙◌, subst, inl, inr, ⊎_elim, arith, map}
use Rattle.std.specs.Prelude.{◌==◌}
use Rattle.std.specs.List.{All, AllPairs, Contains, filter}
use Rattle.std.specs.List.Sorted.{IsPermutation}
use Rattle.std.specs.Ordering.{is_lt, nat_cmp, ordering_then}
use Rattle.std.proofs.lemmas.Bool.{cases_eq, cases_lt}
use Rattle.std.proofs.lemmas.Bool.Decides.{nat_tests}
use Rattle.std.proofs.lemmas.List.{get_or_default}
use Rattle.std.proofs.lemmas.List.Elements.{All-filter, All-map, Contains-get_or}
use Rattle.std.proofs.lemmas.List.Sorted.{Contains-permutation, IsPermutation-sym}
use Rattle.std.proofs.lemmas.Map.Keys.{apart_from_distinct, IsDistinct-from_apart, IsDistinct-IsPermutation}
use Rattle.lk_map.specs.declared.map_text.SectionLine.{SectionLine}
use Rattle.lk_map.specs.declared.spans.Span.{Span}
use Rattle.lk_map.specs.MapText.{LinesRise}
use Rattle.lk_map.specs.Sorted.{NeighboursApart, StartsBelow}
use Rattle.lk_map.specs.Spans.{AreApart, IsBefore, IsFirstOverlap, LinesRiseIn}

-- ---- lines that differ

same_line : Span → Span → Bool
same_line x y = x.line == y.line

same_either_way : (x y : Span) → same_line x y ≡ same_line y x
unfolding same_line
same_either_way x y = grind (arith, nat_tests)

differ_from_rise : (x y : Span) → x.line < y.line → same_line x y ≡ false
unfolding same_line
differ_from_rise x y h = grind (arith, nat_tests)

differ_is : (x y : Span) → same_line x y ≡ false → x.line ≢ y.line
unfolding same_line
differ_is x y h e = grind (arith, nat_tests)

-- in whatever order the ranges stand, neighbours have lines that differ
neighbours_differ : (xs ys : List Span) → IsPermutation xs ys → LinesRiseIn xs → (k : ℕ) (d : Span) → k + 1 < length ys → (get_or ys k d).line ≢ (get_or ys (k + 1) d).line
neighbours_differ xs ys p rise k d h =
    let distinct = IsDistinct-IsPermutation same_line same_either_way xs ys p
    (IsDistinct-from_apart same_line xs (λ i j e below within. differ_from_rise (get_or xs i e) (get_or xs j e) (rise i j e below within))) in
    differ_is (get_or ys k d) (get_or ys (k + 1) d) (apart_from_distinct same_line ys k (k + 1) d distinct (omega arith) h)

-- ---- the order

-- x isn't after y
unfoldable pub NotAfter : Span → Span → Type 0
NotAfter x y = (x.start < y.start) ⊎ ((x.start ≡ y.start) × (x.line ≤ y.line))

-- what the sort says of neighbours
pub in_order : (x y : Span) → is_lt (ordering_then (nat_cmp y.start x.start) (ordering_then (nat_cmp y.line x.line) (nat_cmp y.size x.size))) ≡ false → NotAfter x y
unfolding NotAfter
in_order x y h = grind (arith, nat_tests)

after_itself : (x : Span) → NotAfter x x
unfolding NotAfter
after_itself x = inr (refl, omega arith)

after_each : (x y z : Span) → NotAfter x y → NotAfter y z → NotAfter x z
unfolding NotAfter
after_each x y z h k = grind arith

start_kept : (x y : Span) → NotAfter x y → x.start ≤ y.start
unfolding NotAfter
start_kept x y h = grind arith

not_both : (x y : Span) → NotAfter x y → IsBefore y x → ⊥
unfolding NotAfter
not_both x y h k = grind arith

before_from : (x y : Span) → NotAfter x y → x.line ≢ y.line → IsBefore x y
unfolding NotAfter
before_from x y h ne = grind arith

before_at : (x y : Span) → x.start ≤ y.start → x.line < y.line → IsBefore x y
before_at x y h k = ⊎_elim (λ (e : x.start ≡ y.start). inr (e, k)) (λ (ne : x.start ≡ y.start → ⊥). inl (omega arith)) (cases_eq x.start y.start)

-- ranges in this order
module _ (ss : List Span) (next : (k : ℕ) (d : Span) → k + 1 < length ss → NotAfter (get_or ss k d) (get_or ss (k + 1) d)) where
  far : (i j : ℕ) (d : Span) → i ≤ j → j < length ss → NotAfter (get_or ss i d) (get_or ss j d)
  far i zero d h k = let e : i ≡ zero = omega arith in subst (λ n. NotAfter (get_or ss n d) (get_or ss zero d)) (sym e) (after_itself (get_or ss zero d))
  far i (suc j) d h k =
      ⊎_elim
      (λ (e : i ≡ suc j). subst (λ n. NotAfter (get_or ss n d) (get_or ss (suc j) d)) (sym e) (after_itself (get_or ss (suc j) d)))
      (λ (ne : i ≡ suc j → ⊥).
      let step : NotAfter (get_or ss j d) (get_or ss (j + 1) d) = next j d (omega arith) in
      let same : j + 1 ≡ suc j = omega arith in
      after_each (get_or ss i d) (get_or ss j d) (get_or ss (suc j) d) (far i j d (omega arith) (omega arith)) (subst (λ n. NotAfter (get_or ss j d) (get_or ss n d)) same step))
      (cases_eq i (suc j))

  -- of two ranges the one that is before the other stands first
  stands_first : (v w : Span) (a b : ℕ) → a < length ss → b < length ss → get_or ss a v ≡ v → get_or ss b w ≡ w → IsBefore v w → a < b
  stands_first v w a b ha hb ea eb before =
      ⊎_elim
      (λ (h : a < b). h)
      (λ (h : b ≤ a).
      let order : NotAfter (get_or ss b v) (get_or ss a v) = far b a v h ha in
      let eb' : get_or ss b v ≡ w = get_or_default ss b v w hb ∙ eb in
      let order' : NotAfter w v = subst (λ x. NotAfter x v) eb' (subst (λ x. NotAfter (get_or ss b v) x) ea order) in
      absurd (not_both w v order' before))
      (cases_lt a b)

  -- where neighbours up to a place have no byte in common, none of the ranges up to there have
  ends : (high : ℕ) → NeighboursApart ss high → high ≤ length ss → (i j : ℕ) (d : Span) → i < j → j < high → (get_or ss i d).start + (get_or ss i d).size ≤ (get_or ss j d).start
  ends high apart within i zero d h k = absurd (omega arith)
  ends high apart within i (suc j) d h k =
      let same : j + 1 ≡ suc j = omega arith in
      ⊎_elim
      (λ (e : i ≡ j). subst (λ n. (get_or ss n d).start + (get_or ss n d).size ≤ (get_or ss (suc j) d).start) (sym e) (subst (λ n. (get_or ss j d).start + (get_or ss j d).size ≤ (get_or ss n d).start) same (apart j d (omega arith))))
      (λ (ne : i ≡ j → ⊥).
      let so_far : (get_or ss i d).start + (get_or ss i d).size ≤ (get_or ss j d).start = ends high apart within i j d (omega arith) (omega arith) in
      let rises : (get_or ss j d).start ≤ (get_or ss (suc j) d).start = start_kept (get_or ss j d) (get_or ss (suc j) d) (far j (suc j) d (omega arith) (omega arith)) in
      omega arith)
      (cases_eq i j)

  -- the same of ranges by themselves
  end_before : (high : ℕ) → NeighboursApart ss high → high ≤ length ss → (v w : Span) (a b : ℕ) → a < b → b < high → get_or ss a v ≡ v → get_or ss b w ≡ w → v.start + v.size ≤ w.start
  end_before high apart within v w a b h k ea eb =
      let e : get_or ss b v ≡ w = get_or_default ss b v w (omega arith) ∙ eb in
      subst (λ x. v.start + v.size ≤ x.start) e (subst (λ x. x.start + x.size ≤ (get_or ss b v).start) ea (ends high apart within a b v h k))

  module _ (place : ℕ) (d : Span) (within : place + 1 < length ss) (apart : NeighboursApart ss (place + 1)) (below : StartsBelow ss place) (differ : (get_or ss place d).line ≢ (get_or ss (place + 1) d).line) where
    -- the first neighbours that overlap are the first overlap
    first_found : IsFirstOverlap ss (get_or ss place d) (get_or ss (place + 1) d)
    first_found =
        let x = get_or ss place d in
        let y = get_or ss (place + 1) d in
        let place_in : place < length ss = omega arith in
        let at_x : get_or ss place x ≡ x = get_or_default ss place x d place_in in
        let at_y : get_or ss (place + 1) y ≡ y = get_or_default ss (place + 1) y d within in
        record {
          one = Contains-get_or ss place d place_in;
          other = Contains-get_or ss (place + 1) d within;
          overlap = (before_from x y (next place d within) differ, below d);
          first = λ v w has_v has_w overlap before.
              let b_first : has_w.0 < place + 1 = stands_first w y has_w.0 (place + 1) has_w.1 within has_w.2 at_y before in
              let a_first : has_v.0 < has_w.0 = stands_first v w has_v.0 has_w.0 has_v.1 has_w.1 has_v.2 has_w.2 overlap.0 in
              let apart_vw : v.start + v.size ≤ w.start = end_before (place + 1) apart (omega arith) v w has_v.0 has_w.0 a_first b_first has_v.2 has_w.2 in
              let low : w.start < v.start + v.size = overlap.1 in
              omega arith;
          earliest = λ v has_v overlap before.
              let a_first : has_v.0 < place = stands_first v x has_v.0 place has_v.1 place_in has_v.2 at_x before in
              let apart_vx : v.start + v.size ≤ x.start = end_before (place + 1) apart (omega arith) v x has_v.0 place a_first (omega arith) has_v.2 at_x in
              let rises : x.start ≤ y.start = start_kept x y (next place d within) in
              let low : y.start < v.start + v.size = overlap.1 in
              omega arith;
        }

-- ---- in the order in which the ranges were given

module _ (xs ss : List Span) (p : IsPermutation xs ss) (rise : LinesRiseIn xs) (next : (k : ℕ) (d : Span) → k + 1 < length ss → NotAfter (get_or ss k d) (get_or ss (k + 1) d)) where
  there : (v : Span) → Contains xs v → Contains ss v
  there v h = Contains-permutation xs ss v p h

  back : (v : Span) → Contains ss v → Contains xs v
  back v h = Contains-permutation ss xs v (IsPermutation-sym xs ss p) h

  pub overlap_found : (place : ℕ) (d : Span) → place + 1 < length ss → NeighboursApart ss (place + 1) → StartsBelow ss place → IsFirstOverlap xs (get_or ss place d) (get_or ss (place + 1) d)
  overlap_found place d within apart below =
      let found = first_found ss next place d within apart below (neighbours_differ xs ss p rise place d within) in
      record {
        one = back (get_or ss place d) found.one;
        other = back (get_or ss (place + 1) d) found.other;
        overlap = found.overlap;
        first = λ v w has_v has_w. found.first v w (there v has_v) (there w has_w);
        earliest = λ v has_v. found.earliest v (there v has_v);
      }

  pub none_found : NeighboursApart ss (length ss) → AreApart xs
  none_found apart i j d below within =
      let v = get_or xs i d in
      let w = get_or xs j d in
      let has_v : Contains ss v = there v (Contains-get_or xs i d (omega arith)) in
      let has_w : Contains ss w = there w (Contains-get_or xs j d within) in
      let rises : v.line < w.line = rise i j d below within in
      ⊎_elim
      (λ (h : w.start < v.start).
      inr (end_before ss next (length ss) apart (omega arith) w v has_w.0 has_v.0 (stands_first ss next w v has_w.0 has_v.0 has_w.1 has_v.1 has_w.2 has_v.2 (inl h)) has_v.1 has_w.2 has_v.2))
      (λ (h : v.start ≤ w.start).
      inl (end_before ss next (length ss) apart (omega arith) v w has_v.0 has_w.0 (stands_first ss next v w has_v.0 has_w.0 has_v.1 has_w.1 has_v.2 has_w.2 (before_at v w h rises)) has_w.1 has_v.2 has_w.2))
      (cases_lt w.start v.start)

-- ---- ranges of sections

pairs_cons : {X : Type 0} (R : X → X → Type 0) (x : X) (xs : List X) → All (R x) xs → AllPairs R xs → (i j : ℕ) (d : X) → i < j → j < length (x ∷ xs) → R (get_or (x ∷ xs) i d) (get_or (x ∷ xs) j d)
pairs_cons R x xs above rise zero zero d h k = absurd (omega arith)
pairs_cons R x xs above rise zero (suc j) d h k = above j d (omega arith)
pairs_cons R x xs above rise (suc i) zero d h k = absurd (omega arith)
pairs_cons R x xs above rise (suc i) (suc j) d h k = rise i j d (omega arith) (omega arith)

-- ranges of sections whose lines rise
pub spans_rise : (counts : SectionLine → Bool) (span : SectionLine → Span) → ((s : SectionLine) → (span s).line ≡ s.line) → (ss : List SectionLine) → LinesRise ss → LinesRiseIn (map span (filter counts ss))
spans_rise counts span keeps [] rise = λ i j d h k. absurd (omega arith)
spans_rise counts span keeps (s ∷ ss) rise =
    let above : All (λ t. s.line < t.line) ss = λ k d h. rise 0 (suc k) d (omega arith) (omega arith) in
    let rest : LinesRiseIn (map span (filter counts ss)) = spans_rise counts span keeps ss (λ i j d h k. rise (suc i) (suc j) d (omega arith) (omega arith)) in
    let higher : All (λ y. (span s).line < y.line) (map span (filter counts ss)) =
    All-map (λ (y : Span). (span s).line < y.line) span (filter counts ss)
    (All-filter counts (λ t. (span s).line < (span t).line) ss (λ k d h. rw (keeps s, keeps (get_or ss k d)) (above k d h))) in
    elim (counts s) as (λ b. LinesRiseIn (map span (cond b (s ∷ filter counts ss) (filter counts ss)))) [
      | true ↦ pairs_cons (λ x y. x.line < y.line) (span s) (map span (filter counts ss)) higher rest
      | false ↦ rest
    ]
