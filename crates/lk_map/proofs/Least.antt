-- The least line of what isn't held, section by section, and that it is the line of the first.
use Rattle.std.proofs.Common.{◌≡◌, ℕ, zero, suc, ◌+◌, ◌^◌, ◌<◌, ◌≤◌, ◌⊎◌, Bool, true, false, cond, List, [], ◌∷◌, ◌++◌, Option, Some, None, length, get_or, take, map, min, refl, sym, ap, ◌∙◌, subst, inl, inr, ⊎_elim, arith}
use Rattle.std.specs.Prelude.{◌&&◌, ◌||◌, not, nat_lt, if◌then◌else◌, option_map}
use Rattle.std.specs.List.{All, AllPairs, Contains, filter, find, list_any}
use Rattle.std.specs.List.Sorted.{IsPermutation, IsSorted}
use Rattle.std.specs.Ordering.{is_lt, nat_cmp, ordering_then}
use Rattle.std.proofs.lemmas.Bool.{cases_eq, cases_lt, false≢true}
use Rattle.std.proofs.lemmas.Bool.Decides.{nat_tests}
use Rattle.std.proofs.lemmas.List.{take_all, take_more}
use Rattle.std.proofs.lemmas.List.Elements.{All-cons, All-contains, All-filter, All-head, All-map, All-nil, All-push, All-tail, Contains-append_left, Contains-get_or, Contains-push, Contains-push_cases, filter_passes}
use Rattle.std.proofs.lemmas.List.Sorted.{All-permutation, Contains-permutation, IsPermutation-sym, list_any-IsPermutation}
use Rattle.std.proofs.lemmas.Map.Keys.{apart_from_distinct, IsDistinct-from_apart, IsDistinct-IsPermutation}
use Rattle.lk_map.specs.declared.map_text.SectionLine.{SectionLine}
use Rattle.lk_map.specs.declared.map_text.SegmentLine.{SegmentLine}
use Rattle.lk_map.specs.declared.spans.Span.{Span}
use Rattle.lk_map.specs.declared.sweep.Need.{Need}
use Rattle.lk_map.specs.declared.sweep.Offer.{Offer}
use Rattle.lk_map.specs.Checking.{first_outside, first_overflow, holds, is_outside, needs_segment}
use Rattle.lk_map.specs.Good.{IsHeldBy}
use Rattle.lk_map.specs.MapText.{LinesRise}
use Rattle.lk_map.specs.Spans.{AreApart, counts_in_file, file_spans, is_allocated}
use Rattle.lk_map.specs.Sweep.{IsLater, IsLeast, is_unserved, lesser_line, need_of, needs_of, NeedsRise, offer_of, OffersRise, serves, StartsLater}
use Rattle.lk_map.proofs.Goodness.{all_end, file_span, held_by, held_so}
use Rattle.lk_map.proofs.Opening.{cons_cases, first_in, in_cons, serves_is, serves_whole}

-- ---- the least, behind one more

pub least_first : (offers : List Offer) → IsLeast offers [] None
least_first offers = All-nil (λ n. is_unserved offers n ≡ false)

least_kept : (offers : List Offer) (ns : List Need) (least : Option ℕ) (n : Need) → IsLeast offers ns least → is_unserved offers n ≡ false → IsLeast offers (ns ++ n ∷ []) least
least_kept offers ns None n all held = All-push (λ m. is_unserved offers m ≡ false) ns n all held
least_kept offers ns (Some line) n ((m, m_in, m_out, is), low) held = (
  (m, Contains-append_left ns (n ∷ []) m m_in, m_out, is),
  λ k k_in k_out. ⊎_elim
      (λ (h : Contains ns k). low k h k_out)
      (λ (e : n ≡ k). absurd (false≢true (sym held ∙ ap (is_unserved offers) e ∙ k_out)))
      (Contains-push_cases ns n k k_in),
)

the_min_left : (m line other : ℕ) → m ≡ line → line < other → m ≡ min line other
the_min_left m line other e h = omega arith

the_min_right : (line other : ℕ) → other ≤ line → other ≡ min line other
the_min_right line other h = omega arith

least_lowered : (offers : List Offer) (ns : List Need) (least : Option ℕ) (n : Need) → IsLeast offers ns least → is_unserved offers n ≡ true → IsLeast offers (ns ++ n ∷ []) (Some (lesser_line least n.line))
least_lowered offers ns None n all out = (
  (n, Contains-push ns n, out, refl),
  λ k k_in k_out. ⊎_elim
      (λ (h : Contains ns k). absurd (false≢true (sym (All-contains (λ m. is_unserved offers m ≡ false) ns k all h) ∙ k_out)))
      (λ (e : n ≡ k). let same : n.line ≡ k.line = ap (λ m. m.line) e in omega arith)
      (Contains-push_cases ns n k k_in),
)
least_lowered offers ns (Some line) n ((m, m_in, m_out, is), low) out = (
  ⊎_elim
      (λ (h : line < n.line). (m, Contains-append_left ns (n ∷ []) m m_in, m_out, the_min_left m.line line n.line is h))
      (λ (h : n.line ≤ line). (n, Contains-push ns n, out, the_min_right line n.line h))
      (cases_lt line n.line),
  λ k k_in k_out. ⊎_elim
      (λ (h : Contains ns k). let below : line ≤ k.line = low k h k_out in omega arith)
      (λ (e : n ≡ k). let same : n.line ≡ k.line = ap (λ m. m.line) e in omega arith)
      (Contains-push_cases ns n k k_in),
)

least_step : (offers : List Offer) (ns : List Need) (least : Option ℕ) (n : Need) (held : Bool) → IsLeast offers ns least → is_unserved offers n ≡ not held → IsLeast offers (ns ++ n ∷ []) (if held then least else Some (lesser_line least n.line))
least_step offers ns least n true so h = least_kept offers ns least n so h
least_step offers ns least n false so h = least_lowered offers ns least n so h

pub least_more : (offers : List Offer) (needs : List Need) (i : ℕ) (least : Option ℕ) (n : Need) (held : Bool) → i < length needs → ((d : Need) → get_or needs i d ≡ n) → IsLeast offers (take i needs) least → is_unserved offers n ≡ not held →
    IsLeast offers (take (i + 1) needs) (if held then least else Some (lesser_line least n.line))
least_more offers needs i least n held below is so h =
    subst (λ ns. IsLeast offers ns (if held then least else Some (lesser_line least n.line))) (sym (take_more needs i n below ∙ ap (λ m. take i needs ++ m ∷ []) (is n))) (least_step offers (take i needs) least n held so h)

pub least_all : (offers : List Offer) (needs : List Need) (i : ℕ) (least : Option ℕ) → length needs ≤ i → IsLeast offers (take i needs) least → IsLeast offers needs least
least_all offers needs i least past so = subst (λ ns. IsLeast offers ns least) (take_all i needs past) so

-- ---- in another order

unserved_anyhow : (xs ys : List Offer) → IsPermutation xs ys → (n : Need) → is_unserved ys n ≡ is_unserved xs n
unfolding is_unserved
unserved_anyhow xs ys p n = ap not (sym (list_any-IsPermutation (λ o. serves o n) xs ys p))

least_anyhow : (offers sorted : List Offer) (needs ns : List Need) (least : Option ℕ) → IsPermutation offers sorted → IsPermutation needs ns → IsLeast sorted ns least → IsLeast offers needs least
least_anyhow offers sorted needs ns None p q all = λ k d h.
    sym (unserved_anyhow offers sorted p (get_or needs k d)) ∙ All-contains (λ n. is_unserved sorted n ≡ false) ns (get_or needs k d) all (Contains-permutation needs ns (get_or needs k d) q (Contains-get_or needs k d h))
least_anyhow offers sorted needs ns (Some line) p q ((n, n_in, n_out, is), low) = (
  (n, Contains-permutation ns needs n (IsPermutation-sym needs ns q) n_in, sym (unserved_anyhow offers sorted p n) ∙ n_out, is),
  λ k k_in k_out. low k (Contains-permutation needs ns k q k_in) (unserved_anyhow offers sorted p k ∙ k_out),
)

-- ---- sections and segments as they are gone through

-- whether a section ends within 2^64 - 1
Ends : SectionLine → Type 0
Ends s = (s.mem_offset + s.mem_size < 2 ^ 64) × (s.file_offset + s.file_size < 2 ^ 64)

SegmentEnds : SegmentLine → Type 0
SegmentEnds g = (g.mem_offset + g.mem_size < 2 ^ 64) × (g.file_offset + g.file_size < 2 ^ 64)

same_bool : (a b : Bool) → (a ≡ true → b ≡ true) → (b ≡ true → a ≡ true) → a ≡ b
same_bool true true h k = refl
same_bool true false h k = sym (h refl)
same_bool false true h k = k refl
same_bool false false h k = refl

held_is : (g : SegmentLine) (s : SectionLine) → SegmentEnds g → Ends s → serves (offer_of g) (need_of s) ≡ true → IsHeldBy g s
unfolding Ends SegmentEnds
held_is g s (g_mem, g_file) (s_mem, s_file) e =
    let (distance, start, file, memory) = serves_is (offer_of g) (need_of s) e in
    record {
      memory_from = omega arith;
      memory_to = omega arith;
      file_from = start;
      file_to = omega arith;
      distance = omega arith;
    }

is_held : (g : SegmentLine) (s : SectionLine) → SegmentEnds g → Ends s → IsHeldBy g s → serves (offer_of g) (need_of s) ≡ true
unfolding Ends SegmentEnds
is_held g s (g_mem, g_file) (s_mem, s_file) h =
    let a = h.memory_to in
    let b = h.file_to in
    let c = h.distance in
    let d = h.file_from in
    serves_whole (offer_of g) (need_of s) (omega arith) d (omega arith) (omega arith)

serves_as : (g : SegmentLine) (s : SectionLine) → SegmentEnds g → Ends s → serves (offer_of g) (need_of s) ≡ holds g s
serves_as g s g_ends s_ends = same_bool (serves (offer_of g) (need_of s)) (holds g s) (λ e. held_so g s (held_is g s g_ends s_ends e)) (λ e. is_held g s g_ends s_ends (held_by g s e))

any_as : (gs : List SegmentLine) (s : SectionLine) → All SegmentEnds gs → Ends s → list_any (λ o. serves o (need_of s)) (map offer_of gs) ≡ list_any (λ g. holds g s) gs
any_as [] s g_ends s_ends = refl
any_as (g ∷ gs) s g_ends s_ends =
    ap (λ b. b || list_any (λ o. serves o (need_of s)) (map offer_of gs)) (serves_as g s (All-head SegmentEnds g gs g_ends) s_ends)
    ∙ ap (λ b. holds g s || b) (any_as gs s (All-tail SegmentEnds g gs g_ends) s_ends)

unserved_as : (gs : List SegmentLine) (s : SectionLine) → All SegmentEnds gs → Ends s → is_unserved (map offer_of gs) (need_of s) ≡ not (list_any (λ g. holds g s) gs)
unfolding is_unserved
unserved_as gs s g_ends s_ends = ap not (any_as gs s g_ends s_ends)

-- ---- members

in_needs_case : (x : SectionLine) (xs : List SectionLine) (b : Bool) → Contains (map need_of xs) (need_of x) ⊎ (b ≡ true) → Contains (map need_of (cond b (x ∷ xs) xs)) (need_of x)
in_needs_case x xs true h = first_in (need_of x) (map need_of xs)
in_needs_case x xs false (inl h) = h
in_needs_case x xs false (inr e) = absurd (false≢true e)

in_more : (x : SectionLine) (xs : List SectionLine) (b : Bool) (n : Need) → Contains (map need_of xs) n → Contains (map need_of (cond b (x ∷ xs) xs)) n
in_more x xs true n h = in_cons (need_of x) (map need_of xs) n h
in_more x xs false n h = h

in_needs : (ss : List SectionLine) (s : SectionLine) → Contains ss s → needs_segment s ≡ true → Contains (needs_of ss) (need_of s)
in_needs [] s (k, h, e) needs = absurd (omega arith)
in_needs (x ∷ xs) s h needs =
    ⊎_elim
    (λ (e : x ≡ s). subst (λ t. Contains (needs_of (x ∷ xs)) (need_of t)) e (in_needs_case x (filter needs_segment xs) (needs_segment x) (inr (ap needs_segment e ∙ needs))))
    (λ (c : Contains xs s). in_more x (filter needs_segment xs) (needs_segment x) (need_of s) (in_needs xs s c needs))
    (cons_cases x xs s h)

NeedFrom : List SectionLine → Need → Type 0
NeedFrom ss n = (s : SectionLine) × Contains ss s × (needs_segment s ≡ true) × (need_of s ≡ n)

from_case : (x : SectionLine) (xs : List SectionLine) (b : Bool) (n : Need) → needs_segment x ≡ b → Contains (map need_of (cond b (x ∷ filter needs_segment xs) (filter needs_segment xs))) n → (Contains (needs_of xs) n → NeedFrom xs n) → NeedFrom (x ∷ xs) n
unfolding NeedFrom
from_case x xs true n is h rest =
    ⊎_elim
    (λ (e : need_of x ≡ n). (x, first_in x xs, is, e))
    (λ (c : Contains (needs_of xs) n). let (s, s_in, needs, e) = rest c in (s, in_cons x xs s s_in, needs, e))
    (cons_cases (need_of x) (needs_of xs) n h)
from_case x xs false n is h rest = let (s, s_in, needs, e) = rest h in (s, in_cons x xs s s_in, needs, e)

from_needs : (ss : List SectionLine) (n : Need) → Contains (needs_of ss) n → NeedFrom ss n
from_needs [] n (k, h, e) = absurd (omega arith)
from_needs (x ∷ xs) n h = from_case x xs (needs_segment x) n refl h (from_needs xs n)

-- ---- the first outside

pub find_none : (test : SectionLine → Bool) (ss : List SectionLine) → All (λ s. test s ≡ false) ss → find test ss ≡ None
find_none test [] h = refl
find_none test (s ∷ ss) h = ap (λ b. cond b (Some s) (find test ss)) (All-head (λ s. test s ≡ false) s ss h) ∙ find_none test ss (All-tail (λ s. test s ≡ false) s ss h)

find_least_case : (test : SectionLine → Bool) (x : SectionLine) (xs : List SectionLine) (s : SectionLine) (b : Bool) → test x ≡ b → LinesRise (x ∷ xs) → Contains (x ∷ xs) s → test s ≡ true →
    ((t : SectionLine) → Contains (x ∷ xs) t → test t ≡ true → s.line ≤ t.line) → (Contains xs s → option_map (λ t. t.line) (find test xs) ≡ Some s.line) → option_map (λ t. t.line) (cond b (Some x) (find test xs)) ≡ Some s.line
find_least_case test x xs s true is rise s_in out low rest =
    let below : s.line ≤ x.line = low x (first_in x xs) is in
    ap Some (⊎_elim
    (λ (e : x ≡ s). ap (λ t. t.line) e)
    (λ (c : Contains xs s). let (k, h, at) = c in
    let above : x.line < (get_or xs k s).line = rise 0 (suc k) s (omega arith) (omega arith) in
    let same : (get_or xs k s).line ≡ s.line = ap (λ t. t.line) at in
    absurd (omega arith))
    (cons_cases x xs s s_in))
find_least_case test x xs s false is rise s_in out low rest =
    ⊎_elim
    (λ (e : x ≡ s). absurd (false≢true (sym is ∙ ap test e ∙ out)))
    (λ (c : Contains xs s). rest c)
    (cons_cases x xs s s_in)

find_least : (test : SectionLine → Bool) (ss : List SectionLine) (s : SectionLine) → LinesRise ss → Contains ss s → test s ≡ true → ((t : SectionLine) → Contains ss t → test t ≡ true → s.line ≤ t.line) → option_map (λ t. t.line) (find test ss) ≡ Some s.line
find_least test [] s rise (k, h, e) out low = absurd (omega arith)
find_least test (x ∷ xs) s rise s_in out low =
    find_least_case test x xs s (test x) refl rise s_in out low
    (λ c. find_least test xs s (λ i j d h k. rise (suc i) (suc j) d (omega arith) (omega arith)) c out (λ t t_in t_out. low t (in_cons x xs t t_in) t_out))

out_parts : (a b : Bool) → (a && b) ≡ true → (a ≡ true) × (b ≡ true)
out_parts true b e = (refl, e)
out_parts false b e = absurd (false≢true e)

out_whole : {a b : Bool} → a ≡ true → b ≡ true → (a && b) ≡ true
out_whole p q = rw (p, q) refl

out_false : (a b : Bool) → (a ≡ true → b ≡ false) → (a && b) ≡ false
out_false true b h = h refl
out_false false b h = refl

module _ (ss : List SectionLine) (gs : List SegmentLine) (s_ends : All Ends ss) (g_ends : All SegmentEnds gs) where
  out_is : (s : SectionLine) → Contains ss s → is_outside gs s ≡ true → (needs_segment s ≡ true) × (is_unserved (map offer_of gs) (need_of s) ≡ true)
  unfolding is_outside
  out_is s s_in out =
      let (needs, none) = out_parts (needs_segment s) (not (list_any (λ g. holds g s) gs)) out in
      (needs, unserved_as gs s g_ends (All-contains Ends ss s s_ends s_in) ∙ none)

  is_out : (s : SectionLine) → Contains ss s → needs_segment s ≡ true → is_unserved (map offer_of gs) (need_of s) ≡ true → is_outside gs s ≡ true
  unfolding is_outside
  is_out s s_in needs out = out_whole needs (sym (unserved_as gs s g_ends (All-contains Ends ss s s_ends s_in)) ∙ out)

  inside : (s : SectionLine) → Contains ss s → (needs_segment s ≡ true → is_unserved (map offer_of gs) (need_of s) ≡ false) → is_outside gs s ≡ false
  unfolding is_outside
  inside s s_in h = out_false (needs_segment s) (not (list_any (λ g. holds g s) gs)) (λ needs. sym (unserved_as gs s g_ends (All-contains Ends ss s s_ends s_in)) ∙ h needs)

  -- the least line is that of the first section outside
  least_is_first : (least : Option ℕ) → LinesRise ss → IsLeast (map offer_of gs) (needs_of ss) least → least ≡ first_outside ss gs
  unfolding first_outside NeedFrom
  least_is_first None rise all =
      sym (ap (option_map (λ s. s.line)) (find_none (is_outside gs) ss (λ k d h.
      inside (get_or ss k d) (Contains-get_or ss k d h) (λ needs. All-contains (λ n. is_unserved (map offer_of gs) n ≡ false) (needs_of ss) (need_of (get_or ss k d)) all (in_needs ss (get_or ss k d) (Contains-get_or ss k d h) needs)))))
  least_is_first (Some line) rise ((n, n_in, n_out, is), low) =
      let (s, s_in, needs, e) = from_needs ss n n_in in
      let same : s.line ≡ line = ap (λ m. m.line) e ∙ is in
      let out : is_outside gs s ≡ true = is_out s s_in needs (ap (is_unserved (map offer_of gs)) e ∙ n_out) in
      ap Some (sym same) ∙ sym (find_least (is_outside gs) ss s rise s_in out (λ t t_in t_out.
      let (t_needs, t_unserved) = out_is t t_in t_out in
      let above : line ≤ t.line = low (need_of t) (in_needs ss t t_in t_needs) t_unserved in
      omega arith))

-- ---- in order

-- what holds of neighbours holds of all pairs
far_by : {X : Type 0} (R : X → X → Type 0) → ((x y z : X) → R x y → R y z → R x z) → (xs : List X) → ((k : ℕ) (d : X) → k + 1 < length xs → R (get_or xs k d) (get_or xs (k + 1) d)) → (i j : ℕ) (d : X) → i < j → j < length xs → R (get_or xs i d) (get_or xs j d)
far_by R each xs next i zero d h k = absurd (omega arith)
far_by R each xs next i (suc j) d h k =
    let same : j + 1 ≡ suc j = omega arith in
    let step : R (get_or xs j d) (get_or xs (suc j) d) = subst (λ n. R (get_or xs j d) (get_or xs n d)) same (next j d (omega arith)) in
    ⊎_elim
    (λ (e : i ≡ j). subst (λ n. R (get_or xs n d) (get_or xs (suc j) d)) (sym e) step)
    (λ (ne : i ≡ j → ⊥). each (get_or xs i d) (get_or xs j d) (get_or xs (suc j) d) (far_by R each xs next i j d (omega arith) (omega arith)) step)
    (cases_eq i j)

offer_next : (x y : Offer) → is_lt (ordering_then (nat_cmp y.distance x.distance) (ordering_then (nat_cmp y.start x.start) (ordering_then (nat_cmp y.file_end x.file_end) (nat_cmp y.mem_end x.mem_end)))) ≡ false → StartsLater x y
offer_next x y h = grind (arith, nat_tests)

starts_each : (x y z : Offer) → StartsLater x y → StartsLater y z → StartsLater x z
starts_each x y z h k = grind arith

pub offers_in_order : (offers : List Offer) → IsSorted (λ x y. ordering_then (nat_cmp x.distance y.distance) (ordering_then (nat_cmp x.start y.start) (ordering_then (nat_cmp x.file_end y.file_end) (nat_cmp x.mem_end y.mem_end)))) offers → OffersRise offers
offers_in_order offers sorted = far_by StartsLater starts_each offers (λ k d h. offer_next (get_or offers k d) (get_or offers (k + 1) d) (sorted k d (omega arith) h))

-- sections by distance and start alone
Starts : Need → Need → Type 0
Starts n m = (n.distance < m.distance) ⊎ ((n.distance ≡ m.distance) × (n.start ≤ m.start))

starts_all : (x y z : Need) → Starts x y → Starts y z → Starts x z
unfolding Starts
starts_all x y z h k = grind arith

need_next : (x y : Need) → is_lt (ordering_then (nat_cmp y.distance x.distance) (ordering_then (nat_cmp y.start x.start) (ordering_then (nat_cmp y.file_end x.file_end) (ordering_then (nat_cmp y.mem_end x.mem_end) (nat_cmp y.line x.line))))) ≡ false → Starts x y
unfolding Starts
need_next x y h = grind (arith, nat_tests)

-- whether two have a byte in common in the file
clash : Need → Need → Bool
clash n m = nat_lt n.start m.file_end && nat_lt m.start n.file_end

and_comm : (a b : Bool) → (a && b) ≡ (b && a)
and_comm true true = refl
and_comm true false = refl
and_comm false true = refl
and_comm false false = refl

clash_either_way : (n m : Need) → clash n m ≡ clash m n
unfolding clash
clash_either_way n m = and_comm (nat_lt n.start m.file_end) (nat_lt m.start n.file_end)

clash_not : (n m : Need) → (n.file_end ≤ m.start) ⊎ (m.file_end ≤ n.start) → clash n m ≡ false
unfolding clash
clash_not n m (inl h) = let no : nat_lt m.start n.file_end ≡ false = grind (arith, nat_tests) in ap (λ b. nat_lt n.start m.file_end && b) no ∙ and_comm (nat_lt n.start m.file_end) false
clash_not n m (inr h) = let no : nat_lt n.start m.file_end ≡ false = grind (arith, nat_tests) in ap (λ b. b && nat_lt m.start n.file_end) no

and_left_or : (a b : Bool) → (a && b) ≡ false → (a ≡ false) ⊎ (b ≡ false)
and_left_or true b e = inr e
and_left_or false b e = inl refl

not_below : (a b : ℕ) → nat_lt a b ≡ false → b ≤ a
not_below a b h = grind (arith, nat_tests)

later_from : (n m : Need) → Starts n m → clash n m ≡ false → n.start < n.file_end → m.start < m.file_end → IsLater n m
unfolding Starts clash
later_from n m (inl h) apart n_some m_some = inl h
later_from n m (inr (e, h)) apart n_some m_some =
    inr (
      e,
      h,
      ⊎_elim
          (λ (a : nat_lt n.start m.file_end ≡ false). let low : m.file_end ≤ n.start = not_below n.start m.file_end a in absurd (omega arith))
          (λ (a : nat_lt m.start n.file_end ≡ false). let low : n.file_end ≤ m.start = not_below m.start n.file_end a in omega arith)
          (and_left_or (nat_lt n.start m.file_end) (nat_lt m.start n.file_end) apart),
    )

needs_in_order : (needs ns : List Need) → IsPermutation needs ns → AllPairs (λ n m. clash n m ≡ false) needs → All (λ n. n.start < n.file_end) needs →
    IsSorted (λ x y. ordering_then (nat_cmp x.distance y.distance) (ordering_then (nat_cmp x.start y.start) (ordering_then (nat_cmp x.file_end y.file_end) (ordering_then (nat_cmp x.mem_end y.mem_end) (nat_cmp x.line y.line))))) ns → NeedsRise ns
needs_in_order needs ns p apart some sorted i j d h k =
    let distinct = IsDistinct-IsPermutation clash clash_either_way needs ns p (IsDistinct-from_apart clash needs apart) in
    let all_some : All (λ n. n.start < n.file_end) ns = All-permutation (λ n. n.start < n.file_end) needs ns p some in
    later_from (get_or ns i d) (get_or ns j d)
    (far_by Starts starts_all ns (λ k d h. need_next (get_or ns k d) (get_or ns (k + 1) d) (sorted k d (omega arith) h)) i j d h k)
    (apart_from_distinct clash ns i j d distinct h k)
    (all_some i d (omega arith)) (all_some j d k)

-- ---- sections that have to stand in a segment are apart in the file

needs_count : (s : SectionLine) → needs_segment s ≡ true → counts_in_file s ≡ true
unfolding needs_segment counts_in_file
needs_count s h = (out_parts (nat_lt 0 s.file_size) (is_allocated s) h).0

is_below : (a b : ℕ) → nat_lt a b ≡ true → a < b
is_below a b h = grind (arith, nat_tests)

needs_bytes : (s : SectionLine) → needs_segment s ≡ true → Ends s → (need_of s).start < (need_of s).file_end
unfolding needs_segment Ends
needs_bytes s h (m, f) =
    let bytes : nat_lt 0 s.file_size ≡ true = (out_parts (nat_lt 0 s.file_size) (is_allocated s) h).0 in
    let some : 0 < s.file_size = is_below 0 s.file_size bytes in
    omega arith

all_bytes : (ss : List SectionLine) → All Ends ss → All (λ n. n.start < n.file_end) (needs_of ss)
all_bytes ss ends =
    All-map (λ (n : Need). n.start < n.file_end) need_of (filter needs_segment ss)
    (λ k d h. needs_bytes (get_or (filter needs_segment ss) k d) (filter_passes needs_segment ss k d h) (All-filter needs_segment Ends ss ends k d h))

apart_as : (s t : SectionLine) → Ends s → Ends t → ((file_span s).start + (file_span s).size ≤ (file_span t).start) ⊎ ((file_span t).start + (file_span t).size ≤ (file_span s).start) → clash (need_of s) (need_of t) ≡ false
unfolding Ends
apart_as s t (sm, sf) (tm, tf) (inl h) = clash_not (need_of s) (need_of t) (inl (omega arith))
apart_as s t (sm, sf) (tm, tf) (inr h) = clash_not (need_of s) (need_of t) (inr (omega arith))

IsApart : Span → Span → Type 0
IsApart x y = (x.start + x.size ≤ y.start) ⊎ (y.start + y.size ≤ x.start)

all_step : (s t : SectionLine) (bs cs : List SectionLine) (b c : Bool) → (b ≡ true → c ≡ true) → All (IsApart (file_span s)) (map file_span (cond c (t ∷ cs) cs)) → (IsApart (file_span s) (file_span t) → clash (need_of s) (need_of t) ≡ false) →
    (All (IsApart (file_span s)) (map file_span cs) → All (λ n. clash (need_of s) n ≡ false) (map need_of bs)) → All (λ n. clash (need_of s) n ≡ false) (map need_of (cond b (t ∷ bs) bs))
all_step s t bs cs true true so h one rest = All-cons (λ n. clash (need_of s) n ≡ false) (need_of t) (map need_of bs) (one (All-head (IsApart (file_span s)) (file_span t) (map file_span cs) h)) (rest (All-tail (IsApart (file_span s)) (file_span t) (map file_span cs) h))
all_step s t bs cs true false so h one rest = absurd (false≢true (so refl))
all_step s t bs cs false true so h one rest = rest (All-tail (IsApart (file_span s)) (file_span t) (map file_span cs) h)
all_step s t bs cs false false so h one rest = rest h

all_apart : (s : SectionLine) (ss : List SectionLine) → Ends s → All Ends ss → All (IsApart (file_span s)) (file_spans ss) → All (λ n. clash (need_of s) n ≡ false) (needs_of ss)
unfolding IsApart
all_apart s [] s_ends ends h = All-nil (λ n. clash (need_of s) n ≡ false)
all_apart s (t ∷ ss) s_ends ends h =
    all_step s t (filter needs_segment ss) (filter counts_in_file ss) (needs_segment t) (counts_in_file t) (needs_count t) h (apart_as s t s_ends (All-head Ends t ss ends)) (all_apart s ss s_ends (All-tail Ends t ss ends))

pairs_cons : {X : Type 0} (R : X → X → Type 0) (x : X) (xs : List X) → All (R x) xs → AllPairs R xs → (i j : ℕ) (d : X) → i < j → j < length (x ∷ xs) → R (get_or (x ∷ xs) i d) (get_or (x ∷ xs) j d)
pairs_cons R x xs above rise zero zero d h k = absurd (omega arith)
pairs_cons R x xs above rise zero (suc j) d h k = above j d (omega arith)
pairs_cons R x xs above rise (suc i) zero d h k = absurd (omega arith)
pairs_cons R x xs above rise (suc i) (suc j) d h k = rise i j d (omega arith) (omega arith)

pairs_head : {X : Type 0} (R : X → X → Type 0) (x : X) (xs : List X) → AllPairs R (x ∷ xs) → All (R x) xs
pairs_head R x xs h k d b = h 0 (suc k) d (omega arith) (omega arith)

pairs_tail : {X : Type 0} (R : X → X → Type 0) (x : X) (xs : List X) → AllPairs R (x ∷ xs) → AllPairs R xs
pairs_tail R x xs h i j d a b = h (suc i) (suc j) d (omega arith) (omega arith)

pairs_step : (t : SectionLine) (bs cs : List SectionLine) (b c : Bool) → (b ≡ true → c ≡ true) → AllPairs IsApart (map file_span (cond c (t ∷ cs) cs)) → (All (IsApart (file_span t)) (map file_span cs) → All (λ n. clash (need_of t) n ≡ false) (map need_of bs)) →
    (AllPairs IsApart (map file_span cs) → AllPairs (λ n m. clash n m ≡ false) (map need_of bs)) → AllPairs (λ n m. clash n m ≡ false) (map need_of (cond b (t ∷ bs) bs))
pairs_step t bs cs true true so h one rest = pairs_cons (λ n m. clash n m ≡ false) (need_of t) (map need_of bs) (one (pairs_head IsApart (file_span t) (map file_span cs) h)) (rest (pairs_tail IsApart (file_span t) (map file_span cs) h))
pairs_step t bs cs true false so h one rest = absurd (false≢true (so refl))
pairs_step t bs cs false true so h one rest = rest (pairs_tail IsApart (file_span t) (map file_span cs) h)
pairs_step t bs cs false false so h one rest = rest h

pairs_apart : (ss : List SectionLine) → All Ends ss → AllPairs IsApart (file_spans ss) → AllPairs (λ n m. clash n m ≡ false) (needs_of ss)
pairs_apart [] ends h = λ i j d a b. absurd (omega arith)
pairs_apart (t ∷ ss) ends h =
    pairs_step t (filter needs_segment ss) (filter counts_in_file ss) (needs_segment t) (counts_in_file t) (needs_count t) h (all_apart t ss (All-head Ends t ss ends) (All-tail Ends t ss ends)) (pairs_apart ss (All-tail Ends t ss ends))

-- ---- the whole

module _ (ss : List SectionLine) (gs : List SegmentLine) (ends : first_overflow ss gs ≡ None) where
  pub sorted_needs_rise : (ns : List Need) → AreApart (file_spans ss) → IsPermutation (needs_of ss) ns →
      IsSorted (λ x y. ordering_then (nat_cmp x.distance y.distance) (ordering_then (nat_cmp x.start y.start) (ordering_then (nat_cmp x.file_end y.file_end) (ordering_then (nat_cmp x.mem_end y.mem_end) (nat_cmp x.line y.line))))) ns → NeedsRise ns
  unfolding Ends IsApart
  sorted_needs_rise ns apart p sorted = needs_in_order (needs_of ss) ns p (pairs_apart ss (all_end ss gs ends).0 apart) (all_bytes ss (all_end ss gs ends).0) sorted

  pub least_told : (ns : List Need) (offers : List Offer) (least : Option ℕ) → LinesRise ss → IsPermutation (needs_of ss) ns → IsPermutation (map offer_of gs) offers → IsLeast offers ns least → least ≡ first_outside ss gs
  unfolding Ends SegmentEnds
  least_told ns offers least rise p q so = least_is_first ss gs (all_end ss gs ends).0 (all_end ss gs ends).1 least rise (least_anyhow (map offer_of gs) offers (needs_of ss) ns least q p so)
