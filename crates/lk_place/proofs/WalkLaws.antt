-- The computed walk is the placement that `Placement` defines, and no other is.
use Rattle.std.proofs.Common.{◌≡◌, ℕ, zero, suc, ◌+◌, ◌-◌, ◌≤◌, ◌<◌, ◌⊎◌, List, [], ◌∷◌, length, Option, Some, None, refl, sym, ap, subst, ◌∙◌, arith, inl, inr, add-one, add-zero, zero-add}
use Rattle.std.specs.Prelude.{slice_get, Result, Ok, Err}
use Rattle.std.specs.List.{slice_index_or}
use Rattle.std.proofs.lemmas.Bool.{cases_lt}
use Rattle.std.proofs.lemmas.List.{ext_get_or, get_or_past}
use Rattle.std.proofs.lemmas.Option.{get_or_from_slice_get, slice_get-get_or, slice_get_within}
use Rattle.lk_link.specs.declared.plan.OrderEvent.{OrderEvent}
use Rattle.lk_link.specs.declared.plan.OrderEvent.TheVariants.{SegmentStart, SegmentEnd, Section, SetLocation, SetLocationRelative, SetSectionAddress}
use Rattle.lk_link.specs.Inside.{placed_section}
use Rattle.lk_link.specs.Parts.{all_parts}
use Rattle.lk_link.proofs.Numbers.{length-made, made_at}
use Rattle.lk_link.proofs.PartNumbers.{parts_end-le}
use Rattle.lk_place.specs.declared.cursors.Cursors.{Cursors}
use Rattle.lk_place.specs.declared.error.PlaceError.{PlaceError}
use Rattle.lk_place.specs.Placement.{IsPlaced, carried_out, first_refusal, known_before, own_records, placement_refusal, refusal_behind, refusal_in, refusal_of, state_at}
use Rattle.lk_place.specs.CarriedOut.{IsPlacedBefore}
use Rattle.lk_place.specs.PlacementLaws.{PlacementExists, PlacementIsOne}
use Rattle.lk_place.specs.PlacedBefore.{Known, PlacedRecords, is_placed_before}
use Rattle.lk_expressions.specs.Records.{Record, nowhere, record_at}
use Rattle.lk_place.specs.Setting.{IsReady, Setting, part_count, part_number}
use Rattle.lk_place.specs.Start.{BeginsAt, no_cursors, start}
use Rattle.lk_place.specs.Walk.{AllPass, cursors_after, entered, first_state, known_after, left_by, records_after, refused_at, record_after}
use Rattle.lk_place.proofs.EventSteps.{IsGiven, event_given, event_gives, given_records, made_records}
use Rattle.lk_place.proofs.Knowing.{known_is}
use Rattle.lk_place.proofs.PartEvents.{none_placed, others_are_nowhere}
use Rattle.lk_place.proofs.SectionParts.{AreWalked, given_walked, loaded_record, walked_given}
use Rattle.lk_place.proofs.WalkRecords.{PlacesAt, placed_below, placed_or_not, record_absent, record_kept, record_placed, section_there}
use Rattle.lk_place.proofs.WalkSteps.{cursors_first, cursors_next, has_first, has_none, record_first, start_given, starts}

-- ---- the states

-- the cursors before event k and behind each of the next n
abbrev states_from : Setting → ℕ → ℕ → List Cursors
states_from setting k zero = cursors_after setting k ∷ []
states_from setting k (suc n) = cursors_after setting k ∷ states_from setting (k + 1) n

states_count : (setting : Setting) (k n : ℕ) → length (states_from setting k n) ≡ n + 1
states_count setting k zero = omega arith
states_count setting k (suc n) = omega (arith, states_count setting (k + 1) n)

states_at : (setting : Setting) (k n j : ℕ) → j ≤ n → state_at (states_from setting k n) j ≡ cursors_after setting (k + j)
states_at setting k zero zero h = ap (cursors_after setting) (sym (add-zero k))
states_at setting k zero (suc j) h = absurd (omega arith)
states_at setting k (suc n) zero h = ap (cursors_after setting) (sym (add-zero k))
states_at setting k (suc n) (suc j) h = states_at setting (k + 1) n j (omega arith) ∙ ap (cursors_after setting) (omega arith)

-- the states before each of the first n events and behind the last
abbrev pub states_to : Setting → ℕ → List Cursors
states_to setting n = states_from setting 0 n

pub state_is : (setting : Setting) (n k : ℕ) → k ≤ n → state_at (states_to setting n) k ≡ cursors_after setting k
state_is setting n k h = states_at setting 0 n k h ∙ ap (cursors_after setting) (zero-add k)

-- the first of them
states_first : (setting : Setting) (k n : ℕ) → slice_get (states_from setting k n) 0 ≡ Some (cursors_after setting k)
states_first setting k zero = refl
states_first setting k (suc n) = refl

-- ---- there is a placement

-- the walk over the first n events, of which none is refused; the next is, or there is none
pub record IsWalk (setting : Setting) (n : ℕ) (records : List Record) : Type 0 where
  pub ready : IsReady setting
  pub starts : start setting ≡ Ok (first_state setting)
  pub within : n ≤ length setting.plan.events
  pub pass : AllPass setting n
  pub stops : refused_at setting n ≡ None → n ≡ length setting.plan.events
  pub each : length records ≡ length (all_parts setting.plan.sections)
  pub at : (p : ℕ) → p < length (all_parts setting.plan.sections) → record_at records p ≡ record_after setting n p

-- the records of a walk tell what it knows at each event
pub walk_known : (setting : Setting) (n k : ℕ) (records : List Record) → IsWalk setting n records → k ≤ n → known_before setting (states_to setting n) records k ≡ known_after setting k
walk_known setting n k records walk le =
    known_is setting k (states_to setting n) records walk.ready walk.each (λ p before.
    let below : p < length (all_parts setting.plan.sections) = placed_below setting k p walk.ready before in
    walk.at p below
    ∙ record_kept setting k n p walk.ready le before
    ∙ sym (made_at (record_after setting k) nowhere (all_parts setting.plan.sections) 0 p below ∙ ap (record_after setting k) (zero-add p)))
    (λ j early. state_is setting n j (omega (arith, early, le)))

-- what the records tell of an event's section is what the walk makes of it
event_made : (setting : Setting) (standing : PlacedRecords) (e : OrderEvent) (c : Cursors) (records : List Record) → length records ≡ length (all_parts setting.plan.sections)
    → ((s : ℕ) → e ≡ Section s → s < length setting.plan.sections)
    → ((s : ℕ) → e ≡ Section s → AreWalked setting standing s c records)
    → own_records setting records e ≡ given_records setting standing (placed_section e) c
event_made setting standing (SegmentStart i) c records each there made = refl
event_made setting standing (SegmentEnd i) c records each there made = refl
event_made setting standing (SetLocation x) c records each there made = refl
event_made setting standing (SetLocationRelative x t) c records each there made = refl
event_made setting standing (SetSectionAddress x) c records each there made = refl
event_made setting standing (Section s) c records each there made = walked_given setting standing s c records each (there s refl) (made s refl)

walk_gives : (setting : Setting) (n : ℕ) (records : List Record) → IsWalk setting n records
    → (k : ℕ) (e : OrderEvent) → k < n → slice_get setting.plan.events k ≡ Some e
    → carried_out setting (known_before setting (states_to setting n) records k) e (state_at (states_to setting n) k) ≡ Ok (state_at (states_to setting n) (k + 1), own_records setting records e)
walk_gives setting n records walk k e less here =
    let from : Cursors = cursors_after setting k in
    let known : Known = known_after setting k in
    let same : known ≡ known_before setting (states_to setting n) records k = sym (walk_known setting n k records walk (omega arith)) in
    let at : state_at (states_to setting n) k ≡ from = state_is setting n k (omega arith) in
    let next : state_at (states_to setting n) (k + 1) ≡ left_by setting known (Some e) from =
    state_is setting n (k + 1) (omega arith) ∙ cursors_next setting k ∙ ap (λ (o : Option OrderEvent). left_by setting known o from) here in
    let unrefused : refusal_of setting known k (Some e) from ≡ None = ap (λ (o : Option OrderEvent). refusal_of setting known k o from) (sym here) ∙ walk.pass k less in
    let made : own_records setting records e ≡ made_records setting known e from =
    event_made setting known.standing e (entered setting known e from) records walk.each
    (λ s is. section_there setting k s walk.ready (here ∙ ap (λ (x : OrderEvent). Some x) is))
    (λ s is j within.
    let there : PlacesAt setting k s = here ∙ ap (λ (x : OrderEvent). Some x) is in
    walk.at (part_number setting.plan.sections s j) (omega (arith, parts_end-le setting.plan.sections s (section_there setting k s walk.ready there)))
    ∙ record_placed setting k s j n walk.ready there within less
    ∙ ap (λ (x : OrderEvent). loaded_record setting known.standing s (entered setting known x from) (part_number setting.plan.sections s j)) (sym is)) in
    ap (λ (x : Known). carried_out setting x e (state_at (states_to setting n) k)) (sym same)
    ∙ ap (carried_out setting known e) at
    ∙ event_gives setting known k e from unrefused
    ∙ ap (λ (c : Cursors). Ok (c, made_records setting known e from)) (sym next)
    ∙ ap (λ (rs : List Record). Ok (state_at (states_to setting n) (k + 1), rs)) (sym made)

-- what stands behind the states is what comes next
pub walk_refusal : (setting : Setting) (n : ℕ) (records : List Record) → start setting ≡ Ok (first_state setting) → known_before setting (states_to setting n) records n ≡ known_after setting n
    → placement_refusal setting (states_to setting n) records ≡ refused_at setting n
walk_refusal setting n records starts same =
    let last : length (states_to setting n) - 1 ≡ n = omega (arith, states_count setting 0 n) in
    ap (λ (r : Result Cursors PlaceError). first_refusal r (refusal_behind setting (states_to setting n) records)) starts
    ∙ ap (λ (m : ℕ). refusal_of setting (known_before setting (states_to setting n) records m) m (slice_get setting.plan.events m) (state_at (states_to setting n) m)) last
    ∙ ap (λ (x : Known). refusal_of setting x n (slice_get setting.plan.events n) (state_at (states_to setting n) n)) same
    ∙ ap (refusal_of setting (known_after setting n) n (slice_get setting.plan.events n)) (state_is setting n n (omega arith))

pub walk_is_placed : (setting : Setting) (n : ℕ) (records : List Record) → IsWalk setting n records → IsPlaced setting (states_to setting n) records
walk_is_placed setting n records walk =
    let count : length (states_to setting n) ≡ n + 1 = states_count setting 0 n in
    record {
      begins = subst (λ (r : Result Cursors PlaceError). BeginsAt r (states_to setting n)) (sym walk.starts) (states_first setting 0 n ∙ ap (λ (c : Cursors). Some c) (sym (cursors_first setting)));
      within = omega (arith, count, walk.within);
      steps = λ k e more here. walk_gives setting n records walk k e (omega (arith, count)) here;
      ends = λ none. omega (arith, count, walk.stops (sym (walk_refusal setting n records walk.starts (walk_known setting n n records walk (omega arith))) ∙ none));
      each = walk.each;
      others = λ p none.
          let last : length (states_to setting n) - 1 ≡ n = omega (arith, count) in
          elim (cases_lt p (length (all_parts setting.plan.sections))) [
            | inl there ↦ walk.at p there ∙ record_absent setting n p (none_placed setting n p (ap (λ (m : ℕ). is_placed_before setting.plan m p) (sym last) ∙ none))
            | inr past ↦ get_or_past records p nowhere (omega (arith, walk.each))
          ];
    }

-- the first events pass, or one of them is the first that is refused
pub stops_or_passes : (setting : Setting) (n : ℕ) → AllPass setting n ⊎ ((k : ℕ) × (k < n) × AllPass setting k × ((e : PlaceError) × (refused_at setting k ≡ Some e)))
stops_or_passes setting zero = inl (λ k less. absurd (omega arith))
stops_or_passes setting (suc n) =
    elim (stops_or_passes setting n) [
      | inr stop ↦ inr (stop.0, omega (arith, stop.1), stop.2, stop.3)
      | inl pass ↦
          let here : Option PlaceError = refused_at setting n in
          elim here as (λ o. here ≡ o → AllPass setting (suc n) ⊎ ((k : ℕ) × (k < suc n) × AllPass setting k × ((e : PlaceError) × (refused_at setting k ≡ Some e)))) [
            | None ↦ λ none. inl (λ k less. elim (cases_lt k n) [
              | inl before ↦ pass k before
              | inr at ↦
                  let same : k ≡ n = omega arith in
                  ap (refused_at setting) same ∙ none
            ])
            | (Some e) ↦ λ is. inr (n, omega arith, pass, (e, is))
          ] refl
    ]

-- the records behind the first n events
abbrev pub records_to : Setting → ℕ → List Record
records_to setting n = records_after setting n

-- before all events a part is nowhere, by its number
nowhere_yet : (setting : Setting) (p : ℕ) → record_at (records_to setting 0) p ≡ nowhere
nowhere_yet setting p =
    elim (cases_lt p (length (all_parts setting.plan.sections))) [
      | inl there ↦ made_at (record_after setting 0) nowhere (all_parts setting.plan.sections) 0 p there ∙ sym (record_first setting (0 + p))
      | inr past ↦ get_or_past (records_to setting 0) p nowhere (omega (arith, length-made (record_after setting 0) (all_parts setting.plan.sections) 0))
    ]

pub made_walk : (setting : Setting) (n : ℕ) → IsReady setting → start setting ≡ Ok (first_state setting) → n ≤ length setting.plan.events → AllPass setting n
    → (refused_at setting n ≡ None → n ≡ length setting.plan.events) → IsWalk setting n (records_to setting n)
made_walk setting n ready starts within pass stops = record {
  ready = ready;
  starts = starts;
  within = within;
  pass = pass;
  stops = stops;
  each = length-made (record_after setting n) (all_parts setting.plan.sections) 0;
  at = λ p below. made_at (record_after setting n) nowhere (all_parts setting.plan.sections) 0 p below ∙ ap (record_after setting n) (zero-add p);
}

-- where the start isn't refused
begun_exists : (setting : Setting) → IsReady setting → start setting ≡ Ok (first_state setting)
    → (states : List Cursors) × (records : List Record) × IsPlaced setting states records
begun_exists setting ready starts =
    let all : ℕ = length setting.plan.events in
    elim (stops_or_passes setting all) [
      | inl pass ↦ (states_to setting all, records_to setting all, walk_is_placed setting all (records_to setting all) (made_walk setting all ready starts (omega arith) pass (λ none. refl)))
      | inr stop ↦
          let n : ℕ = stop.0 in
          (states_to setting n, records_to setting n, walk_is_placed setting n (records_to setting n) (made_walk setting n ready starts (omega (arith, stop.1)) stop.2 (λ none. absurd (cc (stop.3.1)))))
    ]

-- where it is, there are no states
pub unbegun : (setting : Setting) (e : PlaceError) → start setting ≡ Err e → IsPlaced setting [] (records_to setting 0)
unbegun setting e refused =
    record {
      begins = subst (λ (r : Result Cursors PlaceError). BeginsAt r []) (sym refused) refl;
      within = omega arith;
      steps = λ k x more here. absurd (omega arith);
      ends = λ none. let some : placement_refusal setting [] (records_to setting 0) ≡ Some e = ap (λ (r : Result Cursors PlaceError). first_refusal r (refusal_behind setting [] (records_to setting 0))) refused in absurd (cc);
      each = length-made (record_after setting 0) (all_parts setting.plan.sections) 0;
      others = λ p none. nowhere_yet setting p;
    }

pub placement_exists : PlacementExists
placement_exists setting ready =
    elim (start setting) as (λ (r : Result Cursors PlaceError). start setting ≡ r → (states : List Cursors) × (records : List Record) × IsPlaced setting states records) [
      | (Ok c) ↦ λ is. begun_exists setting ready (starts setting c is)
      | (Err e) ↦ λ refused. ([], records_to setting 0, unbegun setting e refused)
    ] refl

-- ---- it is one

-- the records of a section that event k places are those that the walk computes there, where the state before it is
section_as_walked : (setting : Setting) (states : List Cursors) (records : List Record) (k s j n : ℕ) → IsReady setting → IsPlaced setting states records
    → k + 1 < length states → slice_get setting.plan.events k ≡ Some (Section s) → j < part_count setting.plan.sections s → k < n
    → state_at states k ≡ cursors_after setting k → known_before setting states records k ≡ known_after setting k
    → record_at records (part_number setting.plan.sections s j) ≡ record_after setting n (part_number setting.plan.sections s j)
section_as_walked setting states records k s j n ready is more here within early state same =
    let e : OrderEvent = Section s in
    let p : ℕ = part_number setting.plan.sections s j in
    let known : Known = known_before setting states records k in
    let from : Cursors = state_at states k in
    let given : IsGiven setting known e from (state_at states (k + 1), own_records setting records e) =
    event_given setting known e from (state_at states (k + 1), own_records setting records e) (is.steps k e more here) in
    given_walked setting known.standing s (entered setting known e from) records (section_there setting k s ready here) (sym given.makes) j within
    ∙ ap (λ (x : Known). loaded_record setting x.standing s (entered setting x e from) p) same
    ∙ ap (λ (c : Cursors). loaded_record setting (known_after setting k).standing s (entered setting (known_after setting k) e c) p) state
    ∙ sym (record_placed setting k s j n ready here within early)

-- the records so far tell what the walk knows
known_so_far : (setting : Setting) (k : ℕ) (states : List Cursors) (records : List Record) → ((j : ℕ) → j ≤ k → state_at states j ≡ cursors_after setting j) → IsReady setting → length records ≡ length (all_parts setting.plan.sections)
    → ((p : ℕ) → IsPlacedBefore setting k p → record_at records p ≡ record_after setting k p) → known_before setting states records k ≡ known_after setting k
known_so_far setting k states records same ready each so_far =
    known_is setting k states records ready each (λ p before.
    let below : p < length (all_parts setting.plan.sections) = placed_below setting k p ready before in
    so_far p before ∙ sym (made_at (record_after setting k) nowhere (all_parts setting.plan.sections) 0 p below ∙ ap (record_after setting k) (zero-add p)))
    same

-- the states are the cursors that the walk computes, and the records of what is placed before them are its records
record IsAsWalked (setting : Setting) (states : List Cursors) (records : List Record) (k : ℕ) : Type 0 where
  walked : (j : ℕ) → j ≤ k → state_at states j ≡ cursors_after setting j
  so_far : (p : ℕ) → IsPlacedBefore setting k p → record_at records p ≡ record_after setting k p

next_state : (setting : Setting) (states : List Cursors) (records : List Record) (k : ℕ) → IsReady setting → IsPlaced setting states records → k + 1 < length states
    → IsAsWalked setting states records k → state_at states (k + 1) ≡ cursors_after setting (k + 1)
next_state setting states records k ready is more before =
    let e : OrderEvent = slice_index_or setting.plan.events k (SegmentEnd 0) in
    let here : slice_get setting.plan.events k ≡ Some e = slice_get-get_or setting.plan.events k (SegmentEnd 0) (omega (arith, is.within)) in
    let same = known_so_far setting k states records before.walked ready is.each before.so_far in
    let given : IsGiven setting (known_before setting states records k) e (state_at states k) (state_at states (k + 1), own_records setting records e) =
    event_given setting (known_before setting states records k) e (state_at states k) (state_at states (k + 1), own_records setting records e) (is.steps k e more here) in
    sym given.leaves
    ∙ ap (λ (x : Known). left_by setting x (Some e) (state_at states k)) same
    ∙ ap (left_by setting (known_after setting k) (Some e)) (before.walked k (omega arith))
    ∙ ap (λ (o : Option OrderEvent). left_by setting (known_after setting k) o (cursors_after setting k)) (sym here)
    ∙ sym (cursors_next setting k)

next_records : (setting : Setting) (states : List Cursors) (records : List Record) (k p : ℕ) → IsReady setting → IsPlaced setting states records → k + 1 < length states
    → IsAsWalked setting states records k → IsPlacedBefore setting (k + 1) p → record_at records p ≡ record_after setting (k + 1) p
next_records setting states records k p ready is more before h =
    elim (cases_lt h.k k) [
      | inl early ↦
          let earlier : IsPlacedBefore setting k p = record { k = h.k; s = h.s; j = h.j; early = early; places = h.places; within = h.within; is = h.is } in
          before.so_far p earlier ∙ sym (record_kept setting k (k + 1) p ready (omega arith) earlier)
      | inr late ↦
          let at : h.k ≡ k = omega (arith, h.early) in
          let here : slice_get setting.plan.events k ≡ Some (Section h.s) = ap (slice_get setting.plan.events) (sym at) ∙ h.places in
          ap (record_at records) h.is
          ∙ section_as_walked setting states records k h.s h.j (k + 1) ready is more here h.within (omega arith) (before.walked k (omega arith)) (known_so_far setting k states records before.walked ready is.each before.so_far)
          ∙ ap (record_after setting (k + 1)) (sym h.is)
    ]

as_walked : (setting : Setting) (states : List Cursors) (records : List Record) → IsReady setting → IsPlaced setting states records
    → (k : ℕ) → k < length states → IsAsWalked setting states records k
as_walked setting states records ready is zero less =
    let given : start setting ≡ Ok (first_state setting) = start_given (start setting) states is.begins less in
    record {
      walked = λ j le.
          ap (state_at states) (omega arith)
          ∙ get_or_from_slice_get states 0 (first_state setting) no_cursors (has_first (start setting) (first_state setting) states given is.begins) ∙ cursors_first setting
          ∙ ap (cursors_after setting) (omega arith);
      so_far = λ p h. absurd (omega (arith, h.early));
    }
as_walked setting states records ready is (suc k) less =
    let before : IsAsWalked setting states records k = as_walked setting states records ready is k (omega arith) in
    subst (IsAsWalked setting states records) (add-one k)
    (record {
      walked = λ j le.
          elim (cases_lt j (k + 1)) [
            | inl early ↦ before.walked j (omega (arith, early))
            | inr late ↦
                let at : j ≡ k + 1 = omega (arith, le, late) in
                ap (state_at states) at ∙ next_state setting states records k ready is (omega arith) before ∙ ap (cursors_after setting) (sym at)
          ];
      so_far = λ p h. next_records setting states records k p ready is (omega arith) before h;
    })

-- a placement is the walk over as many events
pub placed_is_walk : (setting : Setting) (states : List Cursors) (records : List Record) → IsReady setting → 0 < length states → IsPlaced setting states records → IsWalk setting (length states - 1) records
placed_is_walk setting states records ready some is =
    let n : ℕ = length states - 1 in
    let given : start setting ≡ Ok (first_state setting) = start_given (start setting) states is.begins some in
    let walked : (k : ℕ) → k < length states → IsAsWalked setting states records k = as_walked setting states records ready is in
    let last : IsAsWalked setting states records n = walked n (omega (arith, some)) in
    record {
      ready = ready;
      starts = given;
      within = omega (arith, is.within);
      pass = λ k less.
          let e : OrderEvent = slice_index_or setting.plan.events k (SegmentEnd 0) in
          let here : slice_get setting.plan.events k ≡ Some e = slice_get-get_or setting.plan.events k (SegmentEnd 0) (omega (arith, is.within)) in
          let at : IsAsWalked setting states records k = walked k (omega arith) in
          ap (λ (o : Option OrderEvent). refusal_of setting (known_after setting k) k o (cursors_after setting k)) here
          ∙ ap (refusal_of setting (known_after setting k) k (Some e)) (sym (at.walked k (omega arith)))
          ∙ ap (λ (x : Known). refusal_of setting x k (Some e) (state_at states k)) (sym (known_so_far setting k states records at.walked ready is.each at.so_far))
          ∙ ap (refusal_in k) (is.steps k e (omega arith) here);
      stops = λ none.
          let same : placement_refusal setting states records ≡ None =
          ap (λ (r : Result Cursors PlaceError). first_refusal r (refusal_behind setting states records)) given
          ∙ ap (λ (x : Known). refusal_of setting x n (slice_get setting.plan.events n) (state_at states n)) (known_so_far setting n states records last.walked ready is.each last.so_far)
          ∙ ap (refusal_of setting (known_after setting n) n (slice_get setting.plan.events n)) (last.walked n (omega arith)) ∙ none in
          omega (arith, is.ends same, some);
      each = is.each;
      at = λ p below.
          elim (placed_or_not setting n p) [
            | inr none ↦ others_are_nowhere setting states records is p none ∙ sym (record_absent setting n p none)
            | inl h ↦ last.so_far p h
          ];
    }

-- a walk that stops at m is no longer than another
not_longer : (setting : Setting) (m n : ℕ) (records others : List Record) → IsWalk setting m records → IsWalk setting n others → m < n → ⊥
not_longer setting m n records others one two less = absurd (omega (arith, one.stops (two.pass m less), two.within))

-- where the start isn't refused
begun_is_one : (setting : Setting) (states states' : List Cursors) (records records' : List Record) → IsReady setting → 0 < length states → 0 < length states'
    → IsPlaced setting states records → IsPlaced setting states' records' → (states ≡ states') × (records ≡ records')
begun_is_one setting states states' records records' ready some some' h g =
    let n : ℕ = length states - 1 in
    let n' : ℕ = length states' - 1 in
    let one : IsWalk setting n records = placed_is_walk setting states records ready some h in
    let two : IsWalk setting n' records' = placed_is_walk setting states' records' ready some' g in
    let same : n ≡ n' =
    elim (cases_lt n n') [
      | inl less ↦ absurd (not_longer setting n n' records records' one two less)
      | inr other ↦ elim (cases_lt n' n) [
        | inl less ↦ absurd (not_longer setting n' n records' records two one less)
        | inr both ↦ omega arith
      ]
    ] in
    let count : length states ≡ length states' = omega (arith, some, some', same) in (
      ext_get_or no_cursors states states' count
          (λ k below. (as_walked setting states records ready h k below).walked k (omega arith) ∙ sym ((as_walked setting states' records' ready g k (omega (arith, count))).walked k (omega arith))),
      ext_get_or nowhere records records' (h.each ∙ sym g.each)
          (λ p below. one.at p (omega (arith, one.each)) ∙ ap (λ (m : ℕ). record_after setting m p) same ∙ sym (two.at p (omega (arith, one.each)))),
    )

-- where it is refused nothing is placed
unbegun_nowhere : (setting : Setting) (states : List Cursors) (records : List Record) → states ≡ [] → IsPlaced setting states records → (p : ℕ) → record_at records p ≡ nowhere
unbegun_nowhere setting states records empty is p =
    others_are_nowhere setting states records is p (λ (h : IsPlacedBefore setting (length states - 1) p). absurd (omega (arith, h.early, ap length empty)))

pub placement_is_one : PlacementIsOne
placement_is_one setting states states' records records' ready h g =
    elim (start setting) as (λ (r : Result Cursors PlaceError). start setting ≡ r → (states ≡ states') × (records ≡ records')) [
      | (Ok c) ↦ λ is.
          begun_is_one setting states states' records records' ready
          (slice_get_within states 0 c (has_first (start setting) c states is h.begins)) (slice_get_within states' 0 c (has_first (start setting) c states' is g.begins)) h g
      | (Err e) ↦ λ refused.
          let none : states ≡ [] = has_none (start setting) e states refused h.begins in
          let none' : states' ≡ [] = has_none (start setting) e states' refused g.begins in (
            none ∙ sym none',
            ext_get_or nowhere records records' (h.each ∙ sym g.each)
                (λ p below. unbegun_nowhere setting states records none h p ∙ sym (unbegun_nowhere setting states' records' none' g p)),
          )
    ] refl
