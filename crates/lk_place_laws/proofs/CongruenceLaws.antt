-- Under a plain plan, memory is congruent to the file inside each load segment.
use Rattle.std.proofs.Common.{◌≡◌, ℕ, zero, suc, ◌+◌, ◌-◌, ◌%◌, ◌<◌, ◌≤◌, Bool, true, false, List, length, take, Option, Some, None, refl, sym, ap, subst, ◌∙◌, inl, inr, arith, add-one, add-zero}
use Rattle.std.specs.Prelude.{◌||◌, if◌then◌else◌, slice_get, unwrap_or}
use Rattle.std.proofs.lemmas.Bool.{cases_Bool, cases_lt}
use Rattle.lk_link.specs.declared.plan.OrderEvent.{OrderEvent}
use Rattle.lk_link.specs.declared.plan.OrderEvent.TheVariants.{SegmentStart, Section}
use Rattle.lk_link.specs.Inside.{is_open, placed_section}
use Rattle.lk_link.specs.Parts.{first_part}
use Rattle.lk_link.specs.PlanSections.{is_file_backed, is_zero_fill_thread_local}
use Rattle.lk_link.specs.Rules.{is_start}
use Rattle.lk_link.specs.WellFormed.{IsAboutPlace}
use Rattle.lk_link.proofs.Events.{is_that_start}
use Rattle.lk_link.proofs.PartNumbers.{first_part-suc}
use Rattle.lk_place.specs.declared.cursors.Cursors.{Cursors}
use Rattle.lk_place.specs.Alignments.{place_alignment}
use Rattle.lk_place_laws.specs.Laws.{IsSoundlySet, PlainMemoryIsCongruent}
use Rattle.lk_place.specs.PlacedBefore.{Known, PlacedRecords}
use Rattle.lk_place.specs.Placement.{known_before, moved, state_at}
use Rattle.lk_place.specs.CarriedOut.{Places, PlacesSection, CarriesOut}
use Rattle.lk_place.specs.Plain.{IsLoadSegment, IsPlain, OpensLoad, PlacesInLoad}
use Rattle.lk_place.specs.Ranges.{HasPart}
use Rattle.lk_expressions.specs.Records.{Record, nowhere, record_at}
use Rattle.lk_place.specs.Setting.{Setting, part_count, part_number}
use Rattle.lk_place.specs.ThreadLocal.{free_memory}
use Rattle.lk_place_laws.proofs.PlaceAlignments.{place_aligned, place_reaches}
use Rattle.lk_place.proofs.ApartLaws.{section_one}
use Rattle.lk_place.proofs.PartEvents.{others_are_nowhere}
use Rattle.lk_place_laws.proofs.MemoryApart.{placed_of}
use Rattle.lk_place_laws.proofs.Congruent.{CursorsAgree, FreeAgrees, KeepsAgreement, StartsAgree, more_agrees, part_starts, section_leaves, unbacked_leaves}
use Rattle.lk_place.proofs.Insides.{placed_in_range}
use Rattle.lk_place_laws.proofs.MemoryMoves.{Stays, Opened, Entered, Enters, IsFree, enters, moves, opens_load}
use Rattle.lk_place_laws.proofs.OpenBefore.{open_before, section_event}
use Rattle.lk_place.proofs.Steps.{event_at, step_at}
use Rattle.lk_place_laws.proofs.MemorySteps.{addressed, never_waits, plain_plan}

-- ---- the walk

-- what a walk through a load segment is about: a plain plan, and a section with bytes in the file that an event before the last
-- state places while the segment is open
record IsThrough (setting : Setting) (states : List Cursors) (records : List Record) (i s k : ℕ) : Type 0 where
  set : IsSoundlySet setting states records
  plain : IsPlain setting.plan setting.output
  places : PlacesInLoad setting.plan i s k
  backed : is_file_backed setting.plan s ≡ true
  early : k < length states - 1

-- a section placed inside the segment, no later than that one, keeps what agrees in agreement
keeps : (setting : Setting) (states : List Cursors) (records : List Record) (i s k : ℕ) → IsThrough setting states records i s k
    → (u n : ℕ) (from : Cursors) → PlacesInLoad setting.plan i u n → is_file_backed setting.plan u ≡ true → CursorsAgree (place_alignment setting i) from
    → KeepsAgreement setting (place_alignment setting i) u from
keeps setting states records i s k t u n from there backed agrees = record {
  ready = t.set.ready;
  good = place_aligned setting i t.set.ready.sections t.set.page;
  there = placed_in_range setting.plan (Section u) u (t.set.ready.events.in_range n (Section u) there.places.here) refl;
  within = place_reaches setting i u n there.places;
  backed = backed;
  addressed = addressed setting u (t.plain.allocated i u n there) t.plain.whole;
  agrees = agrees;
}

-- of two, the first or the second that doesn't hold
first_of_two : (a b : Bool) → (a || b) ≡ true → b ≡ false → a ≡ true
first_of_two true b h none = refl
first_of_two false b h none = absurd (cc)

-- ---- one event

-- where the segment opens, both agree
opens_agree : (setting : Setting) (states : List Cursors) (records : List Record) (known : Known) (i : ℕ) (from to : Cursors) → IsSoundlySet setting states records → from.pending ≡ None
    → IsLoadSegment setting.plan i → CarriesOut setting known (SegmentStart i) from records to → FreeAgrees (place_alignment setting i) to
opens_agree setting states records known i from to set quiet load step =
    let place : ℕ = place_alignment setting i in
    let there = opens_load setting known i from step.entered quiet load step.moves in
    let none : to.saved ≡ None = ap (λ (c : Cursors). c.saved) step.places ∙ there.2 in
    ap (λ (o : Option ℕ). unwrap_or o to.memory % place) none
    ∙ ap (λ (c : Cursors). c.memory % place) step.places
    ∙ ap (λ n. n % place) there.1
    ∙ set.lawful.congruent place from.file (free_memory from) (place_aligned setting i set.ready.sections set.page)
    ∙ ap (λ n. n % place) (sym there.0)
    ∙ ap (λ (c : Cursors). c.file % place) (sym step.places)

-- an ordinary section with bytes in the file begins where both agree: they are padded alike
level : (setting : Setting) (place u : ℕ) (from entered : Cursors) → is_file_backed setting.plan u ≡ true → is_zero_fill_thread_local setting.plan u ≡ false
    → Enters setting u from entered → FreeAgrees place from → CursorsAgree place entered
level setting place u from entered backed filled begun h =
    let file : entered.file ≡ from.file + begun.padding = begun.file ∙ ap (λ b. from.file + (if b then begun.padding else 0)) backed in
    ap (λ m. m % place) (begun.taken filled).0 ∙ more_agrees place (free_memory from) from.file begun.padding h ∙ ap (λ m. m % place) (sym file)

-- an ordinary section inside the segment leaves both in agreement, as it has bytes in the file
filled_agrees : (setting : Setting) (states : List Cursors) (records : List Record) (i s k : ℕ) → IsThrough setting states records i s k
    → (u n : ℕ) (from entered to : Cursors) → PlacesInLoad setting.plan i u n → is_file_backed setting.plan u ≡ true → is_zero_fill_thread_local setting.plan u ≡ false
    → Enters setting u from entered → FreeAgrees (place_alignment setting i) from → PlacesSection setting u entered records to → FreeAgrees (place_alignment setting i) to
filled_agrees setting states records i s k t u n from entered to there backed filled begun h places =
    let place : ℕ = place_alignment setting i in
    let taken = begun.taken filled in
    let agrees : CursorsAgree place entered = level setting place u from entered backed filled begun h in
    let none : to.saved ≡ None = ap (λ (c : Cursors). c.saved) places.leaves ∙ taken.1 in
    ap (λ (o : Option ℕ). unwrap_or o to.memory % place) none
    ∙ section_leaves setting place u entered to records (keeps setting states records i s k t u n entered there backed agrees) places

-- a zero-fill thread-local one leaves the file and what is free of memory
zero_fill_agrees : (setting : Setting) (place u : ℕ) (from entered to : Cursors) (records : List Record) → is_file_backed setting.plan u ≡ false → is_zero_fill_thread_local setting.plan u ≡ true
    → Enters setting u from entered → FreeAgrees place from → PlacesSection setting u entered records to → FreeAgrees place to
zero_fill_agrees setting place u from entered to records unbacked fills begun h places =
    let saved : to.saved ≡ Some (free_memory from) = ap (λ (c : Cursors). c.saved) places.leaves ∙ begun.kept fills in
    ap (λ (o : Option ℕ). unwrap_or o to.memory % place) saved
    ∙ h
    ∙ ap (λ m. m % place) (sym (unbacked_leaves setting u entered to records unbacked places ∙ begun.file ∙ ap (λ b. from.file + (if b then begun.padding else 0)) unbacked ∙ add-zero from.file))

section_agrees : (setting : Setting) (states : List Cursors) (records : List Record) (i s k : ℕ) → IsThrough setting states records i s k
    → (u n : ℕ) (from entered to : Cursors) → n < k → PlacesInLoad setting.plan i u n → Enters setting u from entered
    → FreeAgrees (place_alignment setting i) from → PlacesSection setting u entered records to → FreeAgrees (place_alignment setting i) to
section_agrees setting states records i s k t u n from entered to less there begun h places =
    elim (cases_Bool (is_zero_fill_thread_local setting.plan u)) [
      | inl fills ↦ zero_fill_agrees setting (place_alignment setting i) u from entered to records (t.plain.zero_fill i u n there fills) fills begun h places
      | inr filled ↦
          let backed = first_of_two (is_file_backed setting.plan u) (is_zero_fill_thread_local setting.plan u) (t.plain.backed_first i u s n k less there t.places t.backed) filled in
          filled_agrees setting states records i s k t u n from entered to there backed filled begun h places
    ]

-- an event that places nothing leaves what its move leaves
stays_agree : (setting : Setting) (standing : PlacedRecords) (place : ℕ) (e : OrderEvent) (o : Option ℕ) (entered to : Cursors) (records : List Record) → placed_section e ≡ o → o ≡ None
    → FreeAgrees place entered → Places setting standing o entered records to → FreeAgrees place to
stays_agree setting standing place e (Some s) entered to records named none h places = absurd (cc)
stays_agree setting standing place e None entered to records named none h places = subst (FreeAgrees place) (sym places) h

-- one event that does not open the segment
step_agrees : (setting : Setting) (states : List Cursors) (records : List Record) (i s k : ℕ) → IsThrough setting states records i s k
    → (n : ℕ) (known : Known) (e : OrderEvent) (from to : Cursors) → n < k → slice_get setting.plan.events n ≡ Some e → is_open i (take n setting.plan.events) ≡ true
    → from.pending ≡ None → FreeAgrees (place_alignment setting i) from → CarriesOut setting known e from records to → FreeAgrees (place_alignment setting i) to
step_agrees setting states records i s k t n known e from to less here opened quiet h step =
    let about : IsAboutPlace e = t.plain.unmoved n e here in
    let free : IsFree setting.plan = (plain_plan setting.plan setting.output t.plain).free in
    let place : ℕ = place_alignment setting i in
    elim (placed_section e) as (λ (o : Option ℕ). placed_section e ≡ o → Places setting known.standing o step.entered records to → FreeAgrees place to) [
      | None ↦ λ none places.
          elim (moves setting known e from step.entered free about quiet step.moves) [
            | Stays same ↦ stays_agree setting known.standing place e None step.entered to records none refl (subst (FreeAgrees place) (sym same) h) places
            | Opened opens ↦
                let other : OpensLoad setting.plan opens.segment n = record { load = opens.load; here = here ∙ ap (λ (x : OrderEvent). Some x) opens.is } in
                let closed = t.plain.apart i opens.segment n t.places.load other in
                absurd (cc)
            | Entered u is begun ↦ let named : Some u ≡ None = ap placed_section (sym is) ∙ none in absurd (cc)
          ]
      | (Some u) ↦ λ named places.
          let at : e ≡ Section u = section_event e u named in
          let there : PlacesInLoad setting.plan i u n = record { load = t.places.load; places = record { here = here ∙ ap (λ (x : OrderEvent). Some x) at; inside = opened } } in
          let begun = enters setting known u from step.entered free quiet (ap (λ (x : OrderEvent). moved setting known x from) (sym at) ∙ step.moves) in
          section_agrees setting states records i s k t u n from step.entered to less there begun h places.placed
    ] refl step.places

-- as long as the segment is open, both agree
open_agrees : (setting : Setting) (states : List Cursors) (records : List Record) (i s k : ℕ) → IsThrough setting states records i s k
    → (n : ℕ) → n ≤ k → is_open i (take n setting.plan.events) ≡ true → FreeAgrees (place_alignment setting i) (state_at states n)
open_agrees setting states records i s k t zero le opened = absurd (cc)
open_agrees setting states records i s k t (suc n) le opened =
    let place : ℕ = place_alignment setting i in
    let early : n < length states - 1 = omega (arith, t.early) in
    let event = event_at setting states records n t.set.placed early in
    let e : OrderEvent = event.0 in
    let known : Known = known_before setting states records n in
    let quiet : (state_at states n).pending ≡ None = never_waits setting states records t.set.ready t.set.placed (plain_plan setting.plan setting.output t.plain) n (omega arith) in
    let step : CarriesOut setting known e (state_at states n) records (state_at states (n + 1)) = step_at setting states records n e t.set.ready t.set.placed early event.1 in
    let agrees : FreeAgrees place (state_at states (n + 1))
    = elim (is_start i e) as (λ b. is_start i e ≡ b → FreeAgrees place (state_at states (n + 1))) [
      | true ↦ λ is.
          opens_agree setting states records known i (state_at states n) (state_at states (n + 1)) t.set quiet t.places.load
          (subst (λ x. CarriesOut setting known x (state_at states n) records (state_at states (n + 1))) (is_that_start i e is) step)
      | false ↦ λ unopened.
          let before : is_open i (take n setting.plan.events) ≡ true = open_before i n setting.plan.events e event.1 unopened opened in
          step_agrees setting states records i s k t n known e (state_at states n) (state_at states (n + 1)) (omega arith) event.1 before quiet
          (open_agrees setting states records i s k t n (omega arith) before) step
    ] refl in
    subst (λ m. FreeAgrees place (state_at states m)) (add-one n) agrees

-- ---- the law

-- where the section's event comes before the last state, its parts' starts agree
placed_agree : (setting : Setting) (states : List Cursors) (records : List Record) (i s k j : ℕ) → IsThrough setting states records i s k
    → j < part_count setting.plan.sections s → StartsAgree (place_alignment setting i) (record_at records (part_number setting.plan.sections s j))
placed_agree setting states records i s k j t below =
    let place : ℕ = place_alignment setting i in
    let from : Cursors = state_at states k in
    let agrees : FreeAgrees place from = open_agrees setting states records i s k t k (omega arith) t.places.places.inside in
    let known : Known = known_before setting states records k in
    let quiet : from.pending ≡ None = never_waits setting states records t.set.ready t.set.placed (plain_plan setting.plan setting.output t.plain) k (omega (arith, t.early)) in
    let step : CarriesOut setting known (Section s) from records (state_at states (k + 1)) = step_at setting states records k (Section s) t.set.ready t.set.placed t.early t.places.places.here in
    let begun = enters setting known s from step.entered (plain_plan setting.plan setting.output t.plain).free quiet step.moves in
    let filled : is_zero_fill_thread_local setting.plan s ≡ false = elim (cases_Bool (is_zero_fill_thread_local setting.plan s)) [
      | inl fills ↦ let unbacked = t.plain.zero_fill i s k t.places fills in absurd (cc)
      | inr none ↦ none
    ] in
    let alike : CursorsAgree place step.entered = level setting place s from step.entered t.backed filled begun agrees in
    part_starts setting place s j step.entered (state_at states (k + 1)) records (keeps setting states records i s k t s k step.entered t.places t.backed alike) step.places.placed below

-- where it doesn't, its parts stand nowhere
unplaced : (setting : Setting) (states : List Cursors) (records : List Record) (s k p : ℕ) → IsSoundlySet setting states records
    → slice_get setting.plan.events k ≡ Some (Section s) → HasPart setting.plan s p → (k < length states - 1 → ⊥) → record_at records p ≡ nowhere
unplaced setting states records s k p set here part late =
    others_are_nowhere setting states records set.placed p (λ a.
    let section : a.s ≡ s = section_one setting.plan a.s s p (placed_of setting (length states - 1) p set.ready a) part in
    let event : slice_get setting.plan.events a.k ≡ Some (Section s) = a.places ∙ ap (λ n. Some (Section n)) section in
    let same : a.k ≡ k = set.ready.events.once a.k k (Section s) tt event here in
    late (omega (arith, same, a.early)))

pub plain_memory_is_congruent : PlainMemoryIsCongruent
plain_memory_is_congruent setting states records set plain i s k p places backed part =
    let place : ℕ = place_alignment setting i in
    let below = placed_in_range setting.plan (Section s) s (set.ready.events.in_range k (Section s) places.places.here) refl in
    let first : ℕ = first_part setting.plan.sections s in
    elim (cases_lt k (length states - 1)) [
      | inl early ↦
          let number : p ≡ first + (p - first) = omega (arith, part.from) in
          let within : p - first < part_count setting.plan.sections s = omega (arith, part.from, part.below, first_part-suc setting.plan.sections s below) in
          let through : IsThrough setting states records i s k = record { set = set; plain = plain; places = places; backed = backed; early = early } in
          subst (λ n. StartsAgree place (record_at records n)) (sym number) (placed_agree setting states records i s k (p - first) through within)
      | inr late ↦ ap (λ (r : Record). r.mem_offset % place) (unplaced setting states records s k p set places.places.here part (λ early. omega arith))
          ∙ sym (ap (λ (r : Record). r.file_offset % place) (unplaced setting states records s k p set places.places.here part (λ early. omega arith)))
    ]
