-- Sections whose lines rise have a verdict, and no two verdicts differ.
use Rattle.std.proofs.Common.{◌≡◌, ℕ, zero, suc, ◌+◌, ◌<◌, ◌≤◌, ◌⊎◌, Bool, true, false, List, [], ◌∷◌, Option, Some, None, Result, Ok, Err, get_or, refl, sym, ap, ◌∙◌, subst, inl, inr, ⊎_elim, arith}
use Rattle.std.specs.Prelude.{◌==◌, ◌&&◌, ◌||◌, nat_lt, min, max}
use Rattle.std.specs.List.{All, Contains, list_any}
use Rattle.std.proofs.lemmas.Bool.{false≢true}
use Rattle.std.proofs.lemmas.Bool.Decides.{nat_tests}
use Rattle.std.proofs.lemmas.List.Elements.{All-cons, All-contains, All-nil, Contains-get_or}
use Rattle.lk_map.specs.declared.check.MapFault.{MapFault}
use Rattle.lk_map.specs.declared.check.MapFault.TheVariants.{Overflow, MemOverlap, FileOverlap, NoSegment, NoMemory}
use Rattle.lk_map.specs.declared.map_text.SectionLine.{SectionLine}
use Rattle.lk_map.specs.declared.map_text.SegmentLine.{SegmentLine}
use Rattle.lk_map.specs.declared.spans.Span.{Span}
use Rattle.lk_map.specs.Checking.{first_outside, first_overflow, IsVerdict}
use Rattle.lk_map.specs.MapText.{LinesRise}
use Rattle.lk_map.specs.Spans.{AreApart, counts_in_file, counts_in_memory, file_spans, FindsOverlap, IsBefore, IsFirstOverlap, LinesRiseIn, memory_spans, Overlaps}
use Rattle.lk_map.specs.Verdicts.{MapsAreJudged, VerdictsAgree, VerdictsTellGood}
use Rattle.lk_map.proofs.Goodness.{any_of, contains_more, counted_in_file, counted_in_memory, file_span, have_bytes, judged_tells, memory_span, none_of, overlap_not}
use Rattle.lk_map.proofs.Overlaps.{spans_rise}

-- ---- the order of ranges, as a test

is_before : Span → Span → Bool
is_before x y = nat_lt x.start y.start || ((x.start == y.start) && nat_lt x.line y.line)

before_is : (x y : Span) → is_before x y ≡ true → IsBefore x y
unfolding is_before
before_is x y h = grind (arith, nat_tests)

before_not : (x y : Span) → is_before x y ≡ false → IsBefore x y → ⊥
unfolding is_before
before_not x y h k = grind (arith, nat_tests)

overlaps : Span → Span → Bool
overlaps x y = is_before x y && nat_lt y.start (x.start + x.size)

overlaps_is : (x y : Span) → overlaps x y ≡ true → Overlaps x y
unfolding is_before overlaps
overlaps_is x y h = grind (arith, nat_tests)

overlaps_so : (x y : Span) → Overlaps x y → overlaps x y ≡ true
unfolding is_before overlaps
overlaps_so x y h = grind (arith, nat_tests)

not_itself : (x v : Span) → x ≡ v → IsBefore v x → ⊥
not_itself x v same before =
    let starts : x.start ≡ v.start = ap (λ s. s.start) same in
    let lines : x.line ≡ v.line = ap (λ s. s.line) same in
    grind arith

before_either : (v y x : Span) → IsBefore v x → (IsBefore v y → ⊥) → IsBefore y x
before_either v y x h k = grind arith

not_back : (x y : Span) → IsBefore x y → IsBefore y x → ⊥
not_back x y h k = grind arith

-- two of which neither is before the other start together, and have one line
same_place : (x y : Span) → (IsBefore x y → ⊥) → (IsBefore y x → ⊥) → (x.start ≡ y.start) × (x.line ≡ y.line)
same_place x y h k = grind arith

-- ---- the least range that passes a test

contains_cases : {X : Type 0} (x : X) (xs : List X) (v : X) → Contains (x ∷ xs) v → (x ≡ v) ⊎ Contains xs v
contains_cases x xs v (zero, h, e) = inl e
contains_cases x xs v (suc k, h, e) = inr (k, omega arith, e)

-- a range passes, and none that passes is before it
record Least (test : Span → Bool) (spans : List Span) (x : Span) : Type 0 where
  among : Contains spans x
  passes : test x ≡ true
  least : (v : Span) → Contains spans v → test v ≡ true → IsBefore v x → ⊥

module _ (test : Span → Bool) (x : Span) (xs : List Span) where
  -- the first range is the least, as none behind it passes
  alone : test x ≡ true → All (λ v. test v ≡ false) xs → Least test (x ∷ xs) x
  alone is none = record {
    among = (0, omega arith, refl);
    passes = is;
    least = λ v has pass before. ⊎_elim
        (λ (same : x ≡ v). not_itself x v same before)
        (λ (has_v : Contains xs v). false≢true (sym (All-contains (λ w. test w ≡ false) xs v none has_v) ∙ pass))
        (contains_cases x xs v has);
  }

  module _ (y : Span) (so : Least test xs y) where
    -- the first is the least, as the least of the others isn't before it
    first_least : test x ≡ true → (IsBefore y x → ⊥) → Least test (x ∷ xs) x
    first_least is not_y = record {
      among = (0, omega arith, refl);
      passes = is;
      least = λ v has pass before. ⊎_elim
          (λ (same : x ≡ v). not_itself x v same before)
          (λ (has_v : Contains xs v). not_y (before_either v y x before (so.least v has_v pass)))
          (contains_cases x xs v has);
    }

    -- the least of the others is, as the first doesn't pass or isn't before it
    other_least : (test x ≡ true → IsBefore x y → ⊥) → Least test (x ∷ xs) y
    other_least not_x = record {
      among = contains_more x xs y so.among;
      passes = so.passes;
      least = λ v has pass before. ⊎_elim
          (λ (same : x ≡ v). not_x (subst (λ w. test w ≡ true) (sym same) pass) (subst (λ w. IsBefore w y) (sym same) before))
          (λ (has_v : Contains xs v). so.least v has_v pass before)
          (contains_cases x xs v has);
    }

    either_least : test x ≡ true → (b : Bool) → is_before y x ≡ b → (z : Span) × Least test (x ∷ xs) z
    either_least is true e = (y, other_least (λ _ before. not_back x y before (before_is y x e)))
    either_least is false e = (x, first_least is (before_not y x e))

  least_case : (b : Bool) → test x ≡ b → All (λ v. test v ≡ false) xs ⊎ ((y : Span) × Least test xs y) → All (λ v. test v ≡ false) (x ∷ xs) ⊎ ((y : Span) × Least test (x ∷ xs) y)
  least_case true is (inl none) = inr (x, alone is none)
  least_case true is (inr (y, so)) = inr (either_least y so is (is_before y x) refl)
  least_case false is (inl none) = inl (All-cons (λ v. test v ≡ false) x xs is none)
  least_case false is (inr (y, so)) = inr (y, other_least y so (λ pass _. false≢true (sym is ∙ pass)))

-- no range passes a test, or one that does is the least
least_of : (test : Span → Bool) (spans : List Span) → All (λ v. test v ≡ false) spans ⊎ ((x : Span) × Least test spans x)
least_of test [] = inl (All-nil (λ v. test v ≡ false))
least_of test (x ∷ xs) = least_case test x xs (test x) refl (least_of test xs)

-- ---- the first overlap

if_not_false : (b : Bool) → (b ≡ false → ⊥) → b ≡ true
if_not_false true h = refl
if_not_false false h = absurd (h refl)

moved : (x y z : Span) → y.start ≡ z.start → y.line ≡ z.line → Overlaps x y → Overlaps x z
moved x y z starts lines h = grind arith

module _ (spans : List Span) where
  -- whether a range starts below the end of one before it
  is_over : Span → Bool
  is_over y = list_any (λ x. overlaps x y) spans

  over_so : (x y : Span) → Contains spans x → Overlaps x y → is_over y ≡ true
  unfolding is_over
  over_so x y has overlap =
      if_not_false (list_any (λ v. overlaps v y) spans)
      (λ e. false≢true (sym (All-contains (λ v. overlaps v y ≡ false) spans x (none_of (λ v. overlaps v y) spans e) has) ∙ overlaps_so x y overlap))

  not_over : (x y : Span) → Contains spans x → is_over y ≡ false → Overlaps x y → ⊥
  not_over x y has none overlap = false≢true (sym none ∙ over_so x y has overlap)

  -- of two ranges of which the first has the lower line
  pair_apart : (x y : Span) → x.line < y.line → (Overlaps x y → ⊥) → (Overlaps y x → ⊥) → (x.start + x.size ≤ y.start) ⊎ (y.start + y.size ≤ x.start)
  pair_apart x y rise h k = grind arith

  none_over : LinesRiseIn spans → All (λ y. is_over y ≡ false) spans → AreApart spans
  none_over rise none i j d below within =
      let x = get_or spans i d in
      let y = get_or spans j d in
      pair_apart x y (rise i j d below within)
      (not_over x y (Contains-get_or spans i d (omega arith)) (none j d within))
      (not_over y x (Contains-get_or spans j d within) (none i d (omega arith)))

  first_of : (y : Span) → Least is_over spans y → (x : Span) → Least (λ v. overlaps v y) spans x → IsFirstOverlap spans x y
  first_of y so x begins = record {
    one = begins.among;
    other = so.among;
    overlap = overlaps_is x y begins.passes;
    first = λ v w has_v has_w overlap. so.least w has_w (over_so v w has_v overlap);
    earliest = λ v has_v overlap. begins.least v has_v (overlaps_so v y overlap);
  }

  begun : (y : Span) → is_over y ≡ true → (x : Span) × Least (λ v. overlaps v y) spans x
  unfolding is_over
  begun y over = ⊎_elim
      (λ (none : All (λ v. overlaps v y ≡ false) spans).
      let (v, has, is) = any_of (λ v. overlaps v y) spans over in
      absurd (false≢true (sym (All-contains (λ v. overlaps v y ≡ false) spans v none has) ∙ is)))
      (λ (found : (x : Span) × Least (λ v. overlaps v y) spans x). found)
      (least_of (λ v. overlaps v y) spans)

  -- ranges whose lines rise are apart, or have a first overlap
  found_in : LinesRiseIn spans → AreApart spans ⊎ ((a : ℕ) × (b : ℕ) × FindsOverlap spans (Some (a, b)))
  unfolding FindsOverlap
  found_in rise = ⊎_elim
      (λ (none : All (λ y. is_over y ≡ false) spans). inl (none_over rise none))
      (λ (found : (y : Span) × Least is_over spans y).
      let (y, so) = found in
      let (x, begins) = begun y so.passes in
      inr (min x.line y.line, max x.line y.line, (x, y, first_of y so x begins, refl, refl)))
      (least_of is_over spans)

  -- the first overlap has one pair of lines
  same_pair : (x y v w : Span) → IsFirstOverlap spans x y → IsFirstOverlap spans v w → (x.line ≡ v.line) × (y.line ≡ w.line)
  same_pair x y v w one other =
      let (starts, lines) = same_place y w (λ before. other.first x y one.one one.other one.overlap before) (λ before. one.first v w other.one other.other other.overlap before) in
      let (_, same) = same_place x v
      (λ before. other.earliest x one.one (moved x y w starts lines one.overlap) before)
      (λ before. one.earliest v other.one (moved v w y (sym starts) (sym lines) other.overlap) before) in
      (same, lines)

  same_lines : (a b c d : ℕ) → FindsOverlap spans (Some (a, b)) → FindsOverlap spans (Some (c, d)) → (a ≡ c) × (b ≡ d)
  unfolding FindsOverlap
  same_lines a b c d (x, y, one, low, high) (v, w, other, low', high') =
      let (p, q) = same_pair x y v w one other in
      (low ∙ ap (λ n. min n y.line) p ∙ ap (λ n. min v.line n) q ∙ sym low', high ∙ ap (λ n. max n y.line) p ∙ ap (λ n. max v.line n) q ∙ sym high')

-- ---- verdicts

module _ (ss : List SectionLine) (gs : List SegmentLine) where
  Verdict : Type 0
  Verdict = (result : Result (Unit {0}) MapFault) × IsVerdict result ss gs

  -- one for each stage of a check
  outside_case : first_overflow ss gs ≡ None → AreApart (memory_spans ss) → AreApart (file_spans ss) → (o : Option ℕ) → first_outside ss gs ≡ o → Verdict
  unfolding Verdict
  outside_case ends memory file None e = (Ok tt, (ends, memory, file, e))
  outside_case ends memory file (Some line) e = (Err (NoSegment line), (ends, memory, file, e))

  file_case : first_overflow ss gs ≡ None → AreApart (memory_spans ss) → AreApart (file_spans ss) ⊎ ((a : ℕ) × (b : ℕ) × FindsOverlap (file_spans ss) (Some (a, b))) → Verdict
  unfolding Verdict
  file_case ends memory (inl file) = outside_case ends memory file (first_outside ss gs) refl
  file_case ends memory (inr (a, b, found)) = (Err (FileOverlap a b), (ends, memory, found))

  memory_case : LinesRise ss → first_overflow ss gs ≡ None → AreApart (memory_spans ss) ⊎ ((a : ℕ) × (b : ℕ) × FindsOverlap (memory_spans ss) (Some (a, b))) → Verdict
  unfolding Verdict
  memory_case rise ends (inl memory) = file_case ends memory (found_in (file_spans ss) (spans_rise counts_in_file file_span (λ s. refl) ss rise))
  memory_case rise ends (inr (a, b, found)) = (Err (MemOverlap a b), (ends, found))

  ends_case : LinesRise ss → (o : Option ℕ) → first_overflow ss gs ≡ o → Verdict
  unfolding Verdict
  ends_case rise None e = memory_case rise e (found_in (memory_spans ss) (spans_rise counts_in_memory memory_span (λ s. refl) ss rise))
  ends_case rise (Some line) e = (Err (Overflow line), e)

pub maps_are_judged : MapsAreJudged
unfolding Verdict
maps_are_judged ss gs rise = ends_case ss gs rise (first_overflow ss gs) refl

one_number : (o : Option ℕ) (a b : ℕ) → o ≡ Some a → o ≡ Some b → a ≡ b
one_number o a b p q = cc

not_both : (o : Option ℕ) (a : ℕ) → o ≡ None → o ≡ Some a → ⊥
not_both o a p q = cc

module _ (ss : List SectionLine) (gs : List SegmentLine) where
  in_memory : (a b : ℕ) → AreApart (memory_spans ss) → FindsOverlap (memory_spans ss) (Some (a, b)) → ⊥
  in_memory a b apart found = overlap_not (memory_spans ss) (a, b) (have_bytes counts_in_memory memory_span counted_in_memory ss) found apart

  in_file : (a b : ℕ) → AreApart (file_spans ss) → FindsOverlap (file_spans ss) (Some (a, b)) → ⊥
  in_file a b apart found = overlap_not (file_spans ss) (a, b) (have_bytes counts_in_file file_span counted_in_file ss) found apart

  Agrees : Result (Unit {0}) MapFault → Result (Unit {0}) MapFault → Type 0
  Agrees one other = IsVerdict one ss gs → IsVerdict other ss gs → one ≡ other

  overflow_agrees : (a : ℕ) (other : Result (Unit {0}) MapFault) → Agrees (Err (Overflow a)) other
  unfolding Agrees
  overflow_agrees a (Ok u) over (ends, _, _, _) = absurd (not_both (first_overflow ss gs) a ends over)
  overflow_agrees a (Err (Overflow b)) over over' = ap (λ n. Err (Overflow n)) (one_number (first_overflow ss gs) a b over over')
  overflow_agrees a (Err (MemOverlap b c)) over (ends, _) = absurd (not_both (first_overflow ss gs) a ends over)
  overflow_agrees a (Err (FileOverlap b c)) over (ends, _, _) = absurd (not_both (first_overflow ss gs) a ends over)
  overflow_agrees a (Err (NoSegment b)) over (ends, _, _, _) = absurd (not_both (first_overflow ss gs) a ends over)
  overflow_agrees a (Err NoMemory) h never = absurd never

  pairs_are : (make : ℕ → ℕ → MapFault) (a b c d : ℕ) → (a ≡ c) × (b ≡ d) → ◌≡◌ {A = Result (Unit {0}) MapFault} (Err (make a b)) (Err (make c d))
  pairs_are make a b c d (p, q) = ap (λ n. Err (make n b)) p ∙ ap (λ n. Err (make c n)) q

  memory_agrees : (a b : ℕ) (other : Result (Unit {0}) MapFault) → Agrees (Err (MemOverlap a b)) other
  unfolding Agrees
  memory_agrees a b (Ok u) (_, found) (_, memory, _, _) = absurd (in_memory a b memory found)
  memory_agrees a b (Err (Overflow c)) (ends, _) over = absurd (not_both (first_overflow ss gs) c ends over)
  memory_agrees a b (Err (MemOverlap c d)) (_, found) (_, found') = pairs_are MemOverlap a b c d (same_lines (memory_spans ss) a b c d found found')
  memory_agrees a b (Err (FileOverlap c d)) (_, found) (_, memory, _) = absurd (in_memory a b memory found)
  memory_agrees a b (Err (NoSegment c)) (_, found) (_, memory, _, _) = absurd (in_memory a b memory found)
  memory_agrees a b (Err NoMemory) h never = absurd never

  file_agrees : (a b : ℕ) (other : Result (Unit {0}) MapFault) → Agrees (Err (FileOverlap a b)) other
  unfolding Agrees
  file_agrees a b (Ok u) (_, _, found) (_, _, file, _) = absurd (in_file a b file found)
  file_agrees a b (Err (Overflow c)) (ends, _, _) over = absurd (not_both (first_overflow ss gs) c ends over)
  file_agrees a b (Err (MemOverlap c d)) (_, memory, _) (_, found) = absurd (in_memory c d memory found)
  file_agrees a b (Err (FileOverlap c d)) (_, _, found) (_, _, found') = pairs_are FileOverlap a b c d (same_lines (file_spans ss) a b c d found found')
  file_agrees a b (Err (NoSegment c)) (_, _, found) (_, _, file, _) = absurd (in_file a b file found)
  file_agrees a b (Err NoMemory) h never = absurd never

  segment_agrees : (a : ℕ) (other : Result (Unit {0}) MapFault) → Agrees (Err (NoSegment a)) other
  unfolding Agrees
  segment_agrees a (Ok u) (_, _, _, out) (_, _, _, none) = absurd (not_both (first_outside ss gs) a none out)
  segment_agrees a (Err (Overflow c)) (ends, _, _, _) over = absurd (not_both (first_overflow ss gs) c ends over)
  segment_agrees a (Err (MemOverlap c d)) (_, memory, _, _) (_, found) = absurd (in_memory c d memory found)
  segment_agrees a (Err (FileOverlap c d)) (_, _, file, _) (_, _, found) = absurd (in_file c d file found)
  segment_agrees a (Err (NoSegment c)) (_, _, _, out) (_, _, _, out') = ap (λ n. Err (NoSegment n)) (one_number (first_outside ss gs) a c out out')
  segment_agrees a (Err NoMemory) h never = absurd never

  good_agrees : (other : Result (Unit {0}) MapFault) → Agrees (Ok tt) other
  unfolding Agrees
  good_agrees (Ok u) h k = refl
  good_agrees (Err (Overflow c)) (ends, _, _, _) over = absurd (not_both (first_overflow ss gs) c ends over)
  good_agrees (Err (MemOverlap c d)) (_, memory, _, _) (_, found) = absurd (in_memory c d memory found)
  good_agrees (Err (FileOverlap c d)) (_, _, file, _) (_, _, found) = absurd (in_file c d file found)
  good_agrees (Err (NoSegment c)) (_, _, _, none) (_, _, _, out) = absurd (not_both (first_outside ss gs) c none out)
  good_agrees (Err NoMemory) h never = absurd never

  no_memory_agrees : (other : Result (Unit {0}) MapFault) → Agrees (Err NoMemory) other
  unfolding Agrees
  no_memory_agrees other never k = absurd never

  agrees : (one other : Result (Unit {0}) MapFault) → Agrees one other
  agrees (Ok u) other = good_agrees other
  agrees (Err (Overflow a)) other = overflow_agrees a other
  agrees (Err (MemOverlap a b)) other = memory_agrees a b other
  agrees (Err (FileOverlap a b)) other = file_agrees a b other
  agrees (Err (NoSegment a)) other = segment_agrees a other
  agrees (Err NoMemory) other = no_memory_agrees other

pub verdicts_agree : VerdictsAgree
unfolding Agrees
verdicts_agree ss gs one other h k = agrees ss gs one other h k

-- ---- what a verdict tells

pub verdicts_tell_good : VerdictsTellGood
verdicts_tell_good ss gs (Ok u) judged = (λ _. judged_tells (Ok u) ss gs judged, λ _. refl)
verdicts_tell_good ss gs (Err (Overflow a)) judged = (λ h. cc, λ good. absurd (judged_tells (Err (Overflow a)) ss gs judged good))
verdicts_tell_good ss gs (Err (MemOverlap a b)) judged = (λ h. cc, λ good. absurd (judged_tells (Err (MemOverlap a b)) ss gs judged good))
verdicts_tell_good ss gs (Err (FileOverlap a b)) judged = (λ h. cc, λ good. absurd (judged_tells (Err (FileOverlap a b)) ss gs judged good))
verdicts_tell_good ss gs (Err (NoSegment a)) judged = (λ h. cc, λ good. absurd (judged_tells (Err (NoSegment a)) ss gs judged good))
verdicts_tell_good ss gs (Err NoMemory) never = absurd never
