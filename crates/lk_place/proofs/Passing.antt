-- An event that isn't refused is carried out step by step, and what carries it out is what it gives.
use Rattle.std.proofs.Common.{◌≡◌, ℕ, ◌+◌, ◌<◌, List, [], length, Option, refl, sym, ap, ◌∙◌}
use Rattle.std.specs.Prelude.{map, Result, Ok}
use Rattle.lk_link.specs.declared.plan.OrderEvent.{OrderEvent}
use Rattle.lk_link.specs.declared.plan.OrderEvent.TheVariants.{SegmentStart, SegmentEnd, Section, SetLocation, SetLocationRelative, SetSectionAddress}
use Rattle.lk_link.specs.declared.plan.Plan.{Plan}
use Rattle.lk_link.specs.Inside.{placed_section}
use Rattle.lk_link.specs.Parts.{all_parts}
use Rattle.lk_link.specs.WellFormed.{IsInRange}
use Rattle.lk_place.specs.declared.cursors.Cursors.{Cursors}
use Rattle.lk_place.specs.declared.error.Refusal.{Refusal}
use Rattle.lk_place.specs.CarriedOut.{CarriesOut, EventsAreCarriedOut, GivenIsCarriedOut, Places}
use Rattle.lk_place.specs.InRegions.{past_region, stands_in}
use Rattle.lk_place.specs.PlacedBefore.{Known, PlacedRecords}
use Rattle.lk_place.specs.Placement.{carried_out, known_before, load_given, loaded_by, own_records, placed_by, record_by, records_by, section_left, section_overflow, section_start, state_at}
use Rattle.lk_expressions.specs.Expressions.{◌>>=◌}
use Rattle.lk_expressions.specs.Records.{Record, record_at}
use Rattle.lk_place.specs.Setting.{IsReady, Setting, part_number}
use Rattle.lk_place.specs.Walk.{entered, load_of, load_or_none}
use Rattle.lk_place.proofs.EventSteps.{IsGiven, IsSectionGiven, event_given, ok_same, section_is_given, steps_made}
use Rattle.lk_place.proofs.Insides.{placed_in_range}
use Rattle.lk_place.proofs.PlacedSections.{MakesSection, loaded_is, loaded_there, loads_at, made_places, places_makes, unloaded, unloaded_is}
use Rattle.lk_place.proofs.SectionParts.{AreWalked, given_walked, walked_given}

ok_left : (c d : Cursors) (rs qs : List Record) → (let given : Result (Cursors × List Record) Refusal = Ok (c, rs) in given ≡ Ok (d, qs)) → d ≡ c
ok_left c d rs qs h =
    let one : Cursors × List Record = (c, rs) in
    let two : Cursors × List Record = (d, qs) in
    sym (ap (λ (q : Cursors × List Record). q.0) (ok_same one two h))

-- what an event places that gives these cursors and these records
event_places : (setting : Setting) (standing : PlacedRecords) (e : OrderEvent) (c : Cursors) (records : List Record) (to : Cursors) → IsReady setting
    → placed_by setting standing (placed_section e) c ≡ Ok (to, own_records setting records e)
    → ((s : ℕ) → e ≡ Section s → s < length setting.plan.sections)
    → Places setting standing (placed_section e) c records to
event_places setting standing (SegmentStart i) c records to ready gives there = ok_left c to [] [] gives
event_places setting standing (SegmentEnd i) c records to ready gives there = ok_left c to [] [] gives
event_places setting standing (SetLocation x) c records to ready gives there = ok_left c to [] [] gives
event_places setting standing (SetLocationRelative x t) c records to ready gives there = ok_left c to [] [] gives
event_places setting standing (SetSectionAddress x) c records to ready gives there = ok_left c to [] [] gives
event_places setting standing (Section s) c records to ready gives there =
    let both : Cursors × List Record = (to, own_records setting records (Section s)) in
    let given : IsSectionGiven setting standing s c both = section_is_given setting standing s c both gives in
    let leaves : to ≡ section_left setting s c = sym (ap (λ (q : Cursors × List Record). q.0) given.gives) in
    let made : AreWalked setting standing s c records = given_walked setting standing s c records (there s refl) (sym (ap (λ (q : Cursors × List Record). q.1) given.gives)) in
    let load : Option ℕ = load_of setting standing s c in
    let number : ℕ → ℕ = part_number setting.plan.sections s in
    let placed : ℕ → Record = λ j. record_by setting s (section_start setting s c) (number j) in
    let own : (j : ℕ) → unloaded (placed j) ≡ placed j = λ j. loaded_there setting s (section_start setting s c) (number j) in
    record {
      placed = made_places setting s c records to ready (there s refl) (λ j less. unloaded_is load (record_at records (number j)) (placed j) (own j) (made j less)) leaves;
      fits = given.fits;
      load = load;
      given = given.load;
      loaded = λ j less. loads_at load (record_at records (number j)) (placed j) (own j) (made j less);
      not_past = ap (λ (left : Cursors). past_region setting (stands_in setting.plan s) left.memory) leaves ∙ given.not_past;
    }

-- and the other way
places_given : (setting : Setting) (standing : PlacedRecords) (e : OrderEvent) (c : Cursors) (records : List Record) (to : Cursors) → IsReady setting
    → length records ≡ length (all_parts setting.plan.sections) → ((s : ℕ) → e ≡ Section s → s < length setting.plan.sections)
    → Places setting standing (placed_section e) c records to → placed_by setting standing (placed_section e) c ≡ Ok (to, own_records setting records e)
places_given setting standing (SegmentStart i) c records to ready each there places = ap (λ (d : Cursors). Ok (d, [])) (sym places)
places_given setting standing (SegmentEnd i) c records to ready each there places = ap (λ (d : Cursors). Ok (d, [])) (sym places)
places_given setting standing (SetLocation x) c records to ready each there places = ap (λ (d : Cursors). Ok (d, [])) (sym places)
places_given setting standing (SetLocationRelative x t) c records to ready each there places = ap (λ (d : Cursors). Ok (d, [])) (sym places)
places_given setting standing (SetSectionAddress x) c records to ready each there places = ap (λ (d : Cursors). Ok (d, [])) (sym places)
places_given setting standing (Section s) c records to ready each there places =
    let makes : MakesSection setting s c records to = places_makes setting s c records to ready (there s refl) places.placed in
    let number : ℕ → ℕ = part_number setting.plan.sections s in
    let placed : ℕ → Record = λ j. record_by setting s (section_start setting s c) (number j) in
    let walked : AreWalked setting standing s c records = λ j less.
    loaded_is places.load (record_at records (number j)) (placed j) (makes.made j less) (places.loaded j less) ∙ ap (λ (o : Option ℕ). loaded_by o (placed j)) (sym (ap load_or_none places.given)) in
    let give : Cursors → Option ℕ → Cursors × List Record = λ left load. (left, map (loaded_by load) (records_by setting s (section_start setting s c))) in
    let past : Cursors → Option Refusal = λ left. past_region setting (stands_in setting.plan s) left.memory in
    steps_made (section_overflow setting s c) (load_given setting standing s c) past (section_left setting s c) give places.load
    places.fits places.given (ap past (sym makes.leaves) ∙ places.not_past)
    ∙ ap (λ (left : Cursors). Ok (give left places.load)) (sym makes.leaves)
    ∙ ap (λ (o : Option ℕ). Ok (give to o)) (sym (ap load_or_none places.given))
    ∙ ap (λ (rs : List Record). Ok (to, rs)) (sym (walked_given setting standing s c records each (there s refl) walked))

-- ---- the laws

-- the section that an event places is there
section_in_range : (plan : Plan) (e : OrderEvent) → IsInRange plan e → (s : ℕ) → e ≡ Section s → s < length plan.sections
section_in_range plan e within s is = placed_in_range plan e s within (ap placed_section is)

carries_out : (setting : Setting) (known : Known) (e : OrderEvent) (from : Cursors) (records : List Record) (to : Cursors) → IsReady setting → IsInRange setting.plan e
    → carried_out setting known e from ≡ Ok (to, own_records setting records e) → CarriesOut setting known e from records to
carries_out setting known e from records to ready within gives =
    let given : IsGiven setting known e from (to, own_records setting records e) = event_given setting known e from (to, own_records setting records e) gives in
    record {
      entered = entered setting known e from;
      moves = given.moves;
      places = event_places setting known.standing e (entered setting known e from) records to ready given.places (section_in_range setting.plan e within);
    }

pub given_is_carried_out : GivenIsCarriedOut
given_is_carried_out setting known e from records to ready within each = (
  carries_out setting known e from records to ready within,
  λ carries.
      ap (λ (r : Result Cursors Refusal). r >>= placed_by setting known.standing (placed_section e)) carries.moves
      ∙ places_given setting known.standing e carries.entered records to ready each (section_in_range setting.plan e within) carries.places,
)

pub events_are_carried_out : EventsAreCarriedOut
events_are_carried_out setting states records ready is k e more here =
    carries_out setting (known_before setting states records k) e (state_at states k) records (state_at states (k + 1)) ready (ready.events.in_range k e here) (is.steps k e more here)
