-- Events are in order exactly where none is bad.
use Rattle.std.specs.Prelude.{◌≡◌, ℕ, ◌<◌, Bool, true, false, not, ◌&&◌, List, Some, None, length, nat_lt, take, slice_get, refl}
use Rattle.std.specs.List.{enumerate_from, list_any}
use Rattle.std.proofs.Common.{sym, ap, ◌∙◌, ⊎_elim, arith, cond, zero-add}
use Rattle.std.proofs.lemmas.Bool.{and_parts, and_from, eq-eqb, lt-ltb, ltb-true, cases_order, false≢true, not-true}
use Rattle.std.proofs.lemmas.Bool.Decides.{Decides-below_and}
use Rattle.std.proofs.lemmas.List.{take_all}
use Rattle.std.proofs.lemmas.Option.{slice_get_within}
use Rattle.lk_link.specs.declared.expression.Expression.{Expression}
use Rattle.lk_link.specs.declared.plan.OrderEvent.{OrderEvent}
use Rattle.lk_link.specs.declared.plan.OrderEvent.TheVariants.{SegmentStart, SegmentEnd, Section, SetLocation, SetLocationRelative, SetSectionAddress}
use Rattle.lk_link.specs.declared.plan.Plan.{Plan}
use Rattle.lk_link.proofs.Elements.{numbered_at}
use Rattle.lk_link.proofs.Events.{is_that_section, is_that_start, is_that_end}
use Rattle.lk_link.proofs.Places.{found, among}
use Rattle.lk_link.specs.Rules.{is_section, is_start, is_end, is_location}
use Rattle.lk_link.proofs.InputLemmas.{numbered_get}
use Rattle.lk_link.specs.WellFormed.{IsInRange, IsAboutPlace, IsEventOrder}
use Rattle.lk_check.specs.FirstAnswer.{first_of}
use Rattle.lk_check.specs.FirstBadEvent.{is_good_event, first_bad_event, all_below, is_complete}
use Rattle.lk_check.proofs.MarkLemmas.{bad_event}
use Rattle.lk_check.proofs.NoAnswer.{none_of, none_from, none_first, both_none, passes_if}

-- ---- one event

-- each event is good behind those before it
abbrev AreGood : Bool → Plan → Type 0
AreGood script plan = (k : ℕ) (e : OrderEvent) → slice_get plan.events k ≡ Some e → is_good_event script plan (take k plan.events) e ≡ true

are_good : (script : Bool) (plan : Plan) → first_of (bad_event script plan) (enumerate_from 0 plan.events) ≡ None → AreGood script plan
are_good script plan h k e at_k =
    let numbered : slice_get (enumerate_from 0 plan.events) k ≡ Some (k, e) = numbered_get 0 plan.events k e at_k ∙ ap (λ (n : ℕ). Some (n, e)) (zero-add k) in
    passes_if (is_good_event script plan (take k plan.events) e) k (none_of (bad_event script plan) (enumerate_from 0 plan.events) k (k, e) h numbered)

section_good : (script : Bool) (plan : Plan) (before : List OrderEvent) (s : ℕ) → is_good_event script plan before (Section s) ≡ true → (s < length plan.sections) × (list_any (is_section s) before ≡ false)
unfolding is_good_event
section_good script plan before s h =
    let both = and_parts (nat_lt s (length plan.sections)) (not (list_any (is_section s) before)) h in
    (ltb-true s (length plan.sections) both.0, not-true (list_any (is_section s) before) both.1)

start_good : (script : Bool) (plan : Plan) (before : List OrderEvent) (i : ℕ) → is_good_event script plan before (SegmentStart i) ≡ true → (i < length plan.segments) × (list_any (is_start i) before ≡ false)
unfolding is_good_event
start_good script plan before i h =
    let both = and_parts (nat_lt i (length plan.segments)) (not (list_any (is_start i) before)) h in
    (ltb-true i (length plan.segments) both.0, not-true (list_any (is_start i) before) both.1)

end_good : (script : Bool) (plan : Plan) (before : List OrderEvent) (i : ℕ) → is_good_event script plan before (SegmentEnd i) ≡ true → (list_any (is_start i) before ≡ true) × (list_any (is_end i) before ≡ false)
unfolding is_good_event
end_good script plan before i h =
    let both = and_parts (list_any (is_start i) before) (not (list_any (is_end i) before)) h in
    (both.0, not-true (list_any (is_end i) before) both.1)

location_good : (script : Bool) (plan : Plan) (before : List OrderEvent) (e : OrderEvent) → is_good_event script plan before e ≡ true → is_location e ≡ true → script ≡ true
unfolding is_good_event
location_good script plan before (SetLocation x) h at = h
location_good script plan before (SetLocationRelative x s) h at = (and_parts script (nat_lt s (length plan.sections)) h).0
location_good script plan before (Section s) h at = absurd (cc)
location_good script plan before (SegmentStart i) h at = absurd (cc)
location_good script plan before (SegmentEnd i) h at = absurd (cc)
location_good script plan before (SetSectionAddress x) h at = absurd (cc)

relative_good : (script : Bool) (plan : Plan) (before : List OrderEvent) (x : Expression) (s : ℕ) → is_good_event script plan before (SetLocationRelative x s) ≡ true → s < length plan.sections
unfolding is_good_event
relative_good script plan before x s h = ltb-true s (length plan.sections) (and_parts script (nat_lt s (length plan.sections)) h).1

-- the start of a segment that closes stands before its end
start_before : (script : Bool) (plan : Plan) → AreGood script plan → (i k : ℕ) → slice_get plan.events k ≡ Some (SegmentEnd i) → (j : ℕ) × (j < k) × (slice_get plan.events j ≡ Some (SegmentStart i))
start_before script plan good i k at_k =
    let there = found (is_start i) plan.events k (end_good script plan (take k plan.events) i (good k (SegmentEnd i) at_k)).0 in
    (there.0, there.2, there.3 ∙ ap (λ e. Some e) (is_that_start i there.1 there.4))

in_range : (script : Bool) (plan : Plan) → AreGood script plan → (k : ℕ) (e : OrderEvent) → slice_get plan.events k ≡ Some e → IsInRange plan e
in_range script plan good k (Section s) at_k = (section_good script plan (take k plan.events) s (good k (Section s) at_k)).0
in_range script plan good k (SegmentStart i) at_k = (start_good script plan (take k plan.events) i (good k (SegmentStart i) at_k)).0
in_range script plan good k (SegmentEnd i) at_k =
    let start = start_before script plan good i k at_k in
    (start_good script plan (take start.0 plan.events) i (good start.0 (SegmentStart i) start.2)).0
in_range script plan good k (SetLocation x) at_k = tt
in_range script plan good k (SetLocationRelative x s) at_k = relative_good script plan (take k plan.events) x s (good k (SetLocationRelative x s) at_k)
in_range script plan good k (SetSectionAddress x) at_k = tt

not_twice : (script : Bool) (plan : Plan) → AreGood script plan → (j k : ℕ) (e : OrderEvent) → IsAboutPlace e → j < k → slice_get plan.events j ≡ Some e → slice_get plan.events k ≡ Some e → ⊥
not_twice script plan good j k (Section s) place lt at_j at_k =
    false≢true (sym (section_good script plan (take k plan.events) s (good k (Section s) at_k)).1 ∙ among (is_section s) plan.events j k (Section s) lt at_j (eq-eqb s s refl))
not_twice script plan good j k (SegmentStart i) place lt at_j at_k =
    false≢true (sym (start_good script plan (take k plan.events) i (good k (SegmentStart i) at_k)).1 ∙ among (is_start i) plan.events j k (SegmentStart i) lt at_j (eq-eqb i i refl))
not_twice script plan good j k (SegmentEnd i) place lt at_j at_k =
    false≢true (sym (end_good script plan (take k plan.events) i (good k (SegmentEnd i) at_k)).1 ∙ among (is_end i) plan.events j k (SegmentEnd i) lt at_j (eq-eqb i i refl))
not_twice script plan good j k (SetLocation x) place lt at_j at_k = place
not_twice script plan good j k (SetLocationRelative x s) place lt at_j at_k = place
not_twice script plan good j k (SetSectionAddress x) place lt at_j at_k = place

once : (script : Bool) (plan : Plan) → AreGood script plan → (j k : ℕ) (e : OrderEvent) → IsAboutPlace e → slice_get plan.events j ≡ Some e → slice_get plan.events k ≡ Some e → j ≡ k
once script plan good j k e place at_j at_k =
    ⊎_elim (λ same. same)
    (⊎_elim (λ lt. absurd (not_twice script plan good j k e place lt at_j at_k)) (λ gt. absurd (not_twice script plan good k j e place gt at_k at_j)))
    (cases_order j k)

below_each : (p : ℕ → Bool) (n : ℕ) → ((k : ℕ) → k < n → p k ≡ true) → all_below p n ≡ true
unfolding all_below
below_each p n h = (Decides-below_and p (λ j. p j ≡ true) (all_below p) (λ j. (λ e. e, λ e. e)) refl (λ _. refl) n).1 h

each_below : (p : ℕ → Bool) (n k : ℕ) → all_below p n ≡ true → k < n → p k ≡ true
unfolding all_below
each_below p n k h lt = (Decides-below_and p (λ j. p j ≡ true) (all_below p) (λ j. (λ e. e, λ e. e)) refl (λ _. refl) n).0 h k lt

somewhere : (p : OrderEvent → Bool) (es : List OrderEvent) → list_any p es ≡ true → (j : ℕ) × (e : OrderEvent) × (slice_get es j ≡ Some e) × (p e ≡ true)
somewhere p es h =
    let there = found p es (length es) (ap (list_any p) (take_all (length es) es (omega arith)) ∙ h) in
    (there.0, there.1, there.3, there.4)

anywhere : (p : OrderEvent → Bool) (es : List OrderEvent) (k : ℕ) (e : OrderEvent) → slice_get es k ≡ Some e → p e ≡ true → list_any p es ≡ true
anywhere p es k e at_k h =
    ap (list_any p) (sym (take_all (length es) es (omega arith))) ∙ among p es k (length es) e (slice_get_within es k e at_k) at_k h

-- ---- all events

-- where no event is bad, they are in order
pub event_order : (script : Bool) (plan : Plan) → first_bad_event script plan ≡ None → IsEventOrder plan
event_order script plan h =
    let both = none_first (first_of (bad_event script plan) (enumerate_from 0 plan.events)) (cond (is_complete plan) None (Some (length plan.events))) h in
    let good = are_good script plan both.0 in
    let placed = all_below (λ s. list_any (is_section s) plan.events) (length plan.sections) in
    let opened = all_below (λ i. list_any (is_start i) plan.events) (length plan.segments) in
    let closed = all_below (λ i. list_any (is_end i) plan.events) (length plan.segments) in
    let all = and_parts (placed && opened) closed (passes_if (is_complete plan) (length plan.events) both.1) in
    let first = and_parts placed opened all.0 in
    record {
      in_range = in_range script plan good;
      once = once script plan good;
      placed = λ s lt.
          let there = somewhere (is_section s) plan.events (each_below (λ t. list_any (is_section t) plan.events) (length plan.sections) s first.0 lt) in
          (there.0, there.2 ∙ ap (λ e. Some e) (is_that_section s there.1 there.3));
      opened = λ i lt.
          let there = somewhere (is_end i) plan.events (each_below (λ t. list_any (is_end t) plan.events) (length plan.segments) i all.1 lt) in
          let closes : slice_get plan.events there.0 ≡ Some (SegmentEnd i) = there.2 ∙ ap (λ e. Some e) (is_that_end i there.1 there.3) in
          let start = start_before script plan good i there.0 closes in
          (start.0, there.0, start.1, start.2, closes);
    }

-- and where the location counter moves, a script is
pub scripted : (script : Bool) (plan : Plan) → first_bad_event script plan ≡ None → list_any is_location plan.events ≡ true → script ≡ true
scripted script plan h at =
    let good = are_good script plan (none_first (first_of (bad_event script plan) (enumerate_from 0 plan.events)) (cond (is_complete plan) None (Some (length plan.events))) h).0 in
    let there = somewhere is_location plan.events at in
    location_good script plan (take there.0 plan.events) there.1 (good there.0 there.1 there.2) there.3

-- ---- and the other way round

-- an event is good behind those before it
new_before : (p : OrderEvent → Bool) (events : List OrderEvent) (k : ℕ) → ((j : ℕ) (e : OrderEvent) → j < k → slice_get events j ≡ Some e → p e ≡ true → ⊥) → list_any p (take k events) ≡ false
new_before p events k h =
    elim (list_any p (take k events)) as (λ b. list_any p (take k events) ≡ b → b ≡ false) [
      | true ↦ λ e. let there = found p events k e in absurd (h there.0 there.1 there.2 there.3 there.4)
      | false ↦ λ e. refl
    ] refl

later : (j k : ℕ) → j ≡ k → j < k → ⊥
later j k same lt = omega arith

good_in_order : (script : Bool) (plan : Plan) → IsEventOrder plan → (list_any is_location plan.events ≡ true → script ≡ true) → AreGood script plan
unfolding is_good_event
good_in_order script plan h moves k (Section s) at_k =
    and_from (nat_lt s (length plan.sections)) (not (list_any (is_section s) (take k plan.events)))
    (lt-ltb s (length plan.sections) (h.in_range k (Section s) at_k))
    (ap not (new_before (is_section s) plan.events k (λ j e lt at_j names.
    later j k (h.once j k (Section s) tt (at_j ∙ ap (λ x. Some x) (is_that_section s e names)) at_k) lt)))
good_in_order script plan h moves k (SegmentStart i) at_k =
    and_from (nat_lt i (length plan.segments)) (not (list_any (is_start i) (take k plan.events)))
    (lt-ltb i (length plan.segments) (h.in_range k (SegmentStart i) at_k))
    (ap not (new_before (is_start i) plan.events k (λ j e lt at_j names.
    later j k (h.once j k (SegmentStart i) tt (at_j ∙ ap (λ x. Some x) (is_that_start i e names)) at_k) lt)))
good_in_order script plan h moves k (SegmentEnd i) at_k =
    let there = h.opened i (h.in_range k (SegmentEnd i) at_k) in
    let here = h.once there.1 k (SegmentEnd i) tt there.4 at_k in
    and_from (list_any (is_start i) (take k plan.events)) (not (list_any (is_end i) (take k plan.events)))
    (among (is_start i) plan.events there.0 k (SegmentStart i) (omega arith) there.3 (eq-eqb i i refl))
    (ap not (new_before (is_end i) plan.events k (λ j e lt at_j names.
    later j k (h.once j k (SegmentEnd i) tt (at_j ∙ ap (λ x. Some x) (is_that_end i e names)) at_k) lt)))
good_in_order script plan h moves k (SetLocation x) at_k = moves (anywhere is_location plan.events k (SetLocation x) at_k refl)
good_in_order script plan h moves k (SetLocationRelative x s) at_k =
    and_from script (nat_lt s (length plan.sections))
    (moves (anywhere is_location plan.events k (SetLocationRelative x s) at_k refl))
    (lt-ltb s (length plan.sections) (h.in_range k (SetLocationRelative x s) at_k))
good_in_order script plan h moves k (SetSectionAddress x) at_k = refl

all_good : (script : Bool) (plan : Plan) → AreGood script plan → first_of (bad_event script plan) (enumerate_from 0 plan.events) ≡ None
all_good script plan good = none_from (bad_event script plan) (enumerate_from 0 plan.events) (λ k e at_k.
    let numbered = numbered_at 0 plan.events k e at_k in
    let number = numbered.0 ∙ zero-add k in
    ap (λ b. cond b None (Some e.0)) (ap (λ n. is_good_event script plan (take n plan.events) e.1) number ∙ good k e.1 numbered.1))

complete_in_order : (plan : Plan) → IsEventOrder plan → is_complete plan ≡ true
complete_in_order plan h =
    let placed = all_below (λ s. list_any (is_section s) plan.events) (length plan.sections) in
    let opened = all_below (λ i. list_any (is_start i) plan.events) (length plan.segments) in
    let closed = all_below (λ i. list_any (is_end i) plan.events) (length plan.segments) in
    and_from (placed && opened) closed
    (and_from placed opened
    (below_each (λ s. list_any (is_section s) plan.events) (length plan.sections) (λ s lt.
    let there = h.placed s lt in anywhere (is_section s) plan.events there.0 (Section s) there.1 (eq-eqb s s refl)))
    (below_each (λ i. list_any (is_start i) plan.events) (length plan.segments) (λ i lt.
    let there = h.opened i lt in anywhere (is_start i) plan.events there.0 (SegmentStart i) there.3 (eq-eqb i i refl))))
    (below_each (λ i. list_any (is_end i) plan.events) (length plan.segments) (λ i lt.
    let there = h.opened i lt in anywhere (is_end i) plan.events there.1 (SegmentEnd i) there.4 (eq-eqb i i refl)))

-- where events are in order, and a script is where the location counter moves, none is bad
pub none_bad : (script : Bool) (plan : Plan) → IsEventOrder plan → (list_any is_location plan.events ≡ true → script ≡ true) → first_bad_event script plan ≡ None
none_bad script plan h moves =
    both_none (first_of (bad_event script plan) (enumerate_from 0 plan.events)) (cond (is_complete plan) None (Some (length plan.events)))
    (all_good script plan (good_in_order script plan h moves))
    (ap (λ b. cond b None (Some (length plan.events))) (complete_in_order plan h))
