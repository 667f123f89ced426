-- Marks, and what they tell of events.
use Rattle.std.proofs.Common.{◌≡◌, ◌≢◌, ℕ, zero, suc, ◌+◌, ◌<◌, ◌≤◌, Bool, true, false, not, ◌==◌, ◌&&◌, ◌||◌, List, [], ◌∷◌, ◌++◌, Option, length, get_or, take, replicate, nat_lt, refl, ap, subst, sym, ◌∙◌, arith, ⊎_elim}
use Rattle.std.specs.List.{list_any, list_all, All}
use Rattle.std.proofs.Math.Bool.{or-false, or-true}
use Rattle.std.proofs.lemmas.List.{take_more, take_all, get_or_past, get_or-replicate, length-replicate, take-replicate}
use Rattle.std.proofs.lemmas.List.Folds.{list_any-append}
use Rattle.std.proofs.lemmas.Bool.{eq-eqb, ne_eqb, ltb-true, cases_eq, lt-ltb, cases_lt, and_parts}
use Rattle.std.proofs.lemmas.Bool.Decides.{same_from_decides, Decides-by_and, Decides-below_and, Decides-like}
use Rattle.lk_link.specs.declared.expression.Expression.{Expression}
use Rattle.lk_link.specs.declared.plan.OrderEvent.{OrderEvent}
use Rattle.lk_link.specs.declared.plan.OrderEvent.TheVariants.{SegmentStart, SegmentEnd, Section, SetLocation, SetLocationRelative, SetSectionAddress}
use Rattle.lk_link.specs.declared.plan.Plan.{Plan}
use Rattle.lk_link.specs.Marks.{is_marked}
use Rattle.lk_link.specs.Rules.{is_section, is_start, is_end}
use Rattle.lk_check.specs.FirstAnswer.{where_not}
use Rattle.lk_check.specs.FirstBadEvent.{is_good_event, all_below, is_complete}
use Rattle.lk_check.specs.Marks.{AreMarked, AreMarks, Marks}

-- the number of an event of the plan, if it may not stand behind those before it
abbrev pub bad_event : Bool → Plan → ℕ × OrderEvent → Option ℕ
bad_event script plan e = where_not (is_good_event script plan (take e.0 plan.events) e.1) e.0

-- ---- one more event

any_more : (p : OrderEvent → Bool) (before : List OrderEvent) (e : OrderEvent) (b : Bool) → p e ≡ b → list_any p (before ++ e ∷ []) ≡ (list_any p before || b)
any_more p before e b h = list_any-append p before (e ∷ []) ∙ ap (λ c. list_any p before || c) (or-false (p e) ∙ h)

-- the number that gets a mark is the one that the event names
marked : (names : ℕ → OrderEvent → Bool) (n : ℕ) (before : List OrderEvent) (e : OrderEvent) (old new : List Bool) (m : ℕ) (fresh : Bool) → AreMarked names n before old → Marks m old new fresh → fresh ≡ true → names m e ≡ true → ((k : ℕ) → k ≢ m → names k e ≡ false) → AreMarked names n (before ++ e ∷ []) new
marked names n before e old new m fresh h s good hit misses =
    let within : m < length old = ltb-true m (length old) (and_parts (nat_lt m (length old)) (not (is_marked old m)) (sym s.is_fresh ∙ good)).0 in
    let here = any_more (names m) before e true hit ∙ or-true (list_any (names m) before) in
    record {
      all = s.len ∙ h.all;
      each = λ k. ⊎_elim
          (λ same. ap (is_marked new) same ∙ s.set within ∙ sym here ∙ ap (λ j. list_any (names j) (before ++ e ∷ [])) (sym same))
          (λ other. s.others k other ∙ h.each k ∙ sym (any_more (names k) before e false (misses k other) ∙ or-false (list_any (names k) before)))
          (cases_eq k m);
    }

-- an event that names no number leaves the marks
kept : (names : ℕ → OrderEvent → Bool) (n : ℕ) (before : List OrderEvent) (e : OrderEvent) (marks : List Bool) → AreMarked names n before marks → ((k : ℕ) → names k e ≡ false) → AreMarked names n (before ++ e ∷ []) marks
kept names n before e marks h misses = record {
  all = h.all;
  each = λ k. h.each k ∙ sym (any_more (names k) before e false (misses k) ∙ or-false (list_any (names k) before));
}

-- a number is fresh where no event before named it
fresh_by : (names : ℕ → OrderEvent → Bool) (n : ℕ) (before : List OrderEvent) (old new : List Bool) (m : ℕ) (fresh : Bool) → AreMarked names n before old → Marks m old new fresh → fresh ≡ (nat_lt m n && not (list_any (names m) before))
fresh_by names n before old new m fresh h s = s.is_fresh ∙ ap (λ len. nat_lt m len && not (is_marked old m)) h.all ∙ ap (λ b. nat_lt m n && not b) (h.each m)

no_other : (m k : ℕ) → k ≢ m → (m == k) ≡ false
no_other m k other = ne_eqb m k (λ e. other (sym e))

-- ---- a section

pub section_exact : (script : Bool) (plan : Plan) (before : List OrderEvent) (placed opened closed new : List Bool) (s : ℕ) (fresh : Bool) → AreMarks plan before placed opened closed → Marks s placed new fresh → fresh ≡ is_good_event script plan before (Section s)
unfolding is_good_event
section_exact script plan before placed opened closed new s fresh h m = fresh_by is_section (length plan.sections) before placed new s fresh h.on_sections m

pub section_marks : (plan : Plan) (before : List OrderEvent) (placed opened closed new : List Bool) (s : ℕ) (fresh : Bool) → AreMarks plan before placed opened closed → Marks s placed new fresh → fresh ≡ true → AreMarks plan (before ++ Section s ∷ []) new opened closed
section_marks plan before placed opened closed new s fresh h m good = record {
  on_sections = marked is_section (length plan.sections) before (Section s) placed new s fresh h.on_sections m good (eq-eqb s s refl) (no_other s);
  on_starts = kept is_start (length plan.segments) before (Section s) opened h.on_starts (λ k. refl);
  on_ends = kept is_end (length plan.segments) before (Section s) closed h.on_ends (λ k. refl);
}

-- ---- a segment that opens

pub start_exact : (script : Bool) (plan : Plan) (before : List OrderEvent) (placed opened closed new : List Bool) (i : ℕ) (fresh : Bool) → AreMarks plan before placed opened closed → Marks i opened new fresh → fresh ≡ is_good_event script plan before (SegmentStart i)
unfolding is_good_event
start_exact script plan before placed opened closed new i fresh h m = fresh_by is_start (length plan.segments) before opened new i fresh h.on_starts m

pub start_marks : (plan : Plan) (before : List OrderEvent) (placed opened closed new : List Bool) (i : ℕ) (fresh : Bool) → AreMarks plan before placed opened closed → Marks i opened new fresh → fresh ≡ true → AreMarks plan (before ++ SegmentStart i ∷ []) placed new closed
start_marks plan before placed opened closed new i fresh h m good = record {
  on_sections = kept is_section (length plan.sections) before (SegmentStart i) placed h.on_sections (λ k. refl);
  on_starts = marked is_start (length plan.segments) before (SegmentStart i) opened new i fresh h.on_starts m good (eq-eqb i i refl) (no_other i);
  on_ends = kept is_end (length plan.segments) before (SegmentStart i) closed h.on_ends (λ k. refl);
}

-- ---- a segment that closes

has_place : (marks : List Bool) (n : ℕ) → is_marked marks n ≡ true → n < length marks
has_place marks n h = ⊎_elim (λ lt. lt) (λ past. absurd (let none : is_marked marks n ≡ false = get_or_past marks n false past in cc)) (cases_lt n (length marks))

pub end_exact : (script : Bool) (plan : Plan) (before : List OrderEvent) (placed opened closed new : List Bool) (i : ℕ) (fresh : Bool) → AreMarks plan before placed opened closed → is_marked opened i ≡ true → Marks i closed new fresh → fresh ≡ is_good_event script plan before (SegmentEnd i)
unfolding is_good_event
end_exact script plan before placed opened closed new i fresh h begun m =
    let within : i < length plan.segments = omega (arith, has_place opened i begun, h.on_starts.all) in
    fresh_by is_end (length plan.segments) before closed new i fresh h.on_ends m
    ∙ ap (λ b. b && not (list_any (is_end i) before)) (lt-ltb i (length plan.segments) within ∙ sym begun ∙ h.on_starts.each i)

pub end_refused : (script : Bool) (plan : Plan) (before : List OrderEvent) (placed opened closed : List Bool) (i : ℕ) → AreMarks plan before placed opened closed → is_marked opened i ≡ false → is_good_event script plan before (SegmentEnd i) ≡ false
unfolding is_good_event
end_refused script plan before placed opened closed i h shut = ap (λ b. b && not (list_any (is_end i) before)) (sym (h.on_starts.each i) ∙ shut)

pub end_marks : (plan : Plan) (before : List OrderEvent) (placed opened closed new : List Bool) (i : ℕ) (fresh : Bool) → AreMarks plan before placed opened closed → Marks i closed new fresh → fresh ≡ true → AreMarks plan (before ++ SegmentEnd i ∷ []) placed opened new
end_marks plan before placed opened closed new i fresh h m good = record {
  on_sections = kept is_section (length plan.sections) before (SegmentEnd i) placed h.on_sections (λ k. refl);
  on_starts = kept is_start (length plan.segments) before (SegmentEnd i) opened h.on_starts (λ k. refl);
  on_ends = marked is_end (length plan.segments) before (SegmentEnd i) closed new i fresh h.on_ends m good (eq-eqb i i refl) (no_other i);
}

-- ---- an event that moves the location

pub location_exact : (script : Bool) (plan : Plan) (before : List OrderEvent) (x : Expression) → script ≡ is_good_event script plan before (SetLocation x)
unfolding is_good_event
location_exact script plan before x = refl

pub address_exact : (script : Bool) (plan : Plan) (before : List OrderEvent) (x : Expression) → true ≡ is_good_event script plan before (SetSectionAddress x)
unfolding is_good_event
address_exact script plan before x = refl

pub relative_exact : (script : Bool) (plan : Plan) (before : List OrderEvent) (placed opened closed : List Bool) (x : Expression) (s : ℕ) → AreMarks plan before placed opened closed → script ≡ true → nat_lt s (length placed) ≡ is_good_event script plan before (SetLocationRelative x s)
unfolding is_good_event
relative_exact script plan before placed opened closed x s h on =
    ap (nat_lt s) h.on_sections.all ∙ ap (λ b. b && nat_lt s (length plan.sections)) (sym on)

pub relative_refused : (script : Bool) (plan : Plan) (before : List OrderEvent) (x : Expression) (s : ℕ) → script ≡ false → script ≡ is_good_event script plan before (SetLocationRelative x s)
unfolding is_good_event
relative_refused script plan before x s off = off ∙ ap (λ b. b && nat_lt s (length plan.sections)) (sym off)

pub ruleset admission = (section_exact, section_marks, start_exact, start_marks, end_exact, end_refused, end_marks)

-- ---- no event yet

unmarked : (names : ℕ → OrderEvent → Bool) (n : ℕ) (marks : List Bool) → marks ≡ replicate n false → AreMarked names n [] marks
unmarked names n marks h = record {
  all = ap length h ∙ length-replicate n false;
  each = λ k. ap (λ ms. is_marked ms k) h
      ∙ ⊎_elim (λ lt. get_or-replicate n k false false lt) (λ past. get_or_past (replicate n false) k false (omega (arith, length-replicate n false))) (cases_lt k n);
}

pub none_yet : (plan : Plan) (placed opened closed : List Bool) → placed ≡ replicate (length plan.sections) false → opened ≡ replicate (length plan.segments) false → closed ≡ replicate (length plan.segments) false → AreMarks plan [] placed opened closed
none_yet plan placed opened closed p o c = record {
  on_sections = unmarked is_section (length plan.sections) placed p;
  on_starts = unmarked is_start (length plan.segments) opened o;
  on_ends = unmarked is_end (length plan.segments) closed c;
}

-- marks on the first few of some numbers
pub ruleset room = (take-replicate)

-- ---- all events

from_marks : (marks : List Bool) → All (λ m. m ≡ true) marks → (k : ℕ) → k < length marks → is_marked marks k ≡ true
from_marks marks h k lt = h k false lt

to_marks : (marks : List Bool) → ((k : ℕ) → k < length marks → is_marked marks k ≡ true) → All (λ m. m ≡ true) marks
to_marks [] h k d lt = absurd (omega arith)
to_marks (m ∷ marks) h zero d lt = h 0 (omega arith)
to_marks (m ∷ marks) h (suc k) d lt = to_marks marks (λ j below. h (suc j) (omega arith)) k d (omega arith)

-- all have marks where some event names each
all_named : (names : ℕ → OrderEvent → Bool) (n : ℕ) (events : List OrderEvent) (marks : List Bool) → AreMarked names n events marks → all_below (λ k. list_any (names k) events) n ≡ list_all (λ m. m) marks
unfolding all_below
all_named names n events marks h =
    sym (same_from_decides (list_all (λ m. m) marks) (all_below (λ k. list_any (names k) events) n)
    (Decides-like (list_all (λ m. m) marks)
    (λ all k lt. sym (h.each k) ∙ from_marks marks all k (omega (arith, h.all)))
    (λ each. to_marks marks (λ k lt. h.each k ∙ each k (omega (arith, h.all))))
    (Decides-by_and (λ m. m) (λ m. m ≡ true) (list_all (λ m. m)) (λ m. (λ e. e, λ e. e)) refl (λ _ _. refl) marks))
    (Decides-below_and (λ k. list_any (names k) events) (λ k. list_any (names k) events ≡ true) (all_below (λ k. list_any (names k) events)) (λ k. (λ e. e, λ e. e)) refl (λ _. refl) n))

pub complete : (plan : Plan) (placed opened closed : List Bool) → AreMarks plan plan.events placed opened closed → is_complete plan ≡ (list_all (λ m. m) placed && list_all (λ m. m) opened && list_all (λ m. m) closed)
complete plan placed opened closed h =
    rw (all_named is_section (length plan.sections) plan.events placed h.on_sections, all_named is_start (length plan.segments) plan.events opened h.on_starts, all_named is_end (length plan.segments) plan.events closed h.on_ends)

pub ruleset completion = (complete)

-- ---- the walk

-- marks of one more event of the plan
pub one_more : (plan : Plan) (i : ℕ) (e : OrderEvent) (placed opened closed : List Bool) → i < length plan.events → e ≡ get_or plan.events i e → AreMarks plan (take i plan.events ++ e ∷ []) placed opened closed → AreMarks plan (take (i + 1) plan.events) placed opened closed
one_more plan i e placed opened closed below item h =
    let P : List OrderEvent → Type 0 = λ es. AreMarks plan es placed opened closed in
    subst P (ap (λ x. take i plan.events ++ x ∷ []) item ∙ sym (take_more plan.events i e below)) h

-- marks of all events
pub all_of : (plan : Plan) (i : ℕ) (placed opened closed : List Bool) → length plan.events ≤ i → AreMarks plan (take i plan.events) placed opened closed → AreMarks plan plan.events placed opened closed
all_of plan i placed opened closed past h =
    let P : List OrderEvent → Type 0 = λ es. AreMarks plan es placed opened closed in
    subst P (take_all i plan.events past) h
