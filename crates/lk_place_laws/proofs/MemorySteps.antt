-- What each event does to memory where nothing moves the location, and where the parts stand there that it places.
use Rattle.std.proofs.Common.{◌≡◌, ◌≢◌, ℕ, zero, suc, ◌+◌, ◌-◌, ◌≤◌, ◌<◌, Bool, true, false, List, [], length, Option, Some, None, Ok, refl, sym, ap, subst, ◌∙◌, arith, add-one}
use Rattle.std.specs.Prelude.{◌&&◌, not, if◌then◌else◌, position, slice_get, unwrap_or, Result, Err}
use Rattle.std.specs.Str.{bytes_eq}
use Rattle.std.proofs.lemmas.Bool.{and_parts, not-true}
use Rattle.std.proofs.lemmas.Option.{get_or_from_slice_get}
use Rattle.lk_link.specs.declared.options.OutputKind.{OutputKind}
use Rattle.lk_link.specs.declared.options.OutputKind.TheVariants as output
use Rattle.lk_link.specs.declared.plan.OrderEvent.{OrderEvent}
use Rattle.lk_link.specs.declared.plan.OrderEvent.TheVariants.{Section}
use Rattle.lk_link.specs.Inside.{placed_section}
use Rattle.lk_link.specs.Parts.{first_part}
use Rattle.lk_link.specs.declared.plan.Plan.{Plan}
use Rattle.lk_link.specs.declared.plan.Region.{Region}
use Rattle.lk_link.specs.OutputKinds.{is_partial}
use Rattle.lk_link.specs.PlanSections.{has_memory, is_allocated, is_zero_fill_thread_local, section_at}
use Rattle.lk_link.specs.WellFormed.{IsAboutPlace}
use Rattle.lk_place.specs.declared.cursors.Cursors.{Cursors}
use Rattle.lk_place.specs.declared.cursors.Offsets.{Offsets}
use Rattle.lk_place.specs.declared.error.PlaceError.{PlaceError}
use Rattle.lk_place.specs.declared.regions.SectionRegion.TheVariants.{Free, Undeclared, Within}
use Rattle.lk_place.specs.Alignments.{place_alignment}
use Rattle.lk_place.specs.InRegions.{named_region, numbered_region, stands_in}
use Rattle.lk_place_laws.specs.Laws.{IsSoundlySet}
use Rattle.lk_place.specs.PlacedBefore.{Known, PlacedRecords}
use Rattle.lk_place.specs.Placement.{IsPlaced, known_before, moved, section_start, state_at}
use Rattle.lk_place.specs.CarriedOut.{Places, PlacesSection, reached}
use Rattle.lk_place.specs.Plain.{IsPlain}
use Rattle.lk_place_laws.specs.Plans.{IsUnmoved}
use Rattle.lk_expressions.specs.Records.{Record, mem_end}
use Rattle.lk_place.specs.Setting.{IsReady, Setting, part_count, takes_addresses}
use Rattle.lk_expressions.specs.Expressions.{◌>>=◌}
use Rattle.lk_place.specs.Start.{BeginsAt, begun_memory, first_cursors, no_cursors, start}
use Rattle.lk_place.specs.ThreadLocal.{free_memory}
use Rattle.lk_place.specs.Walk.{first_state}
use Rattle.lk_place_laws.proofs.PlaceAlignments.{place_aligned}
use Rattle.lk_place_laws.proofs.MemoryMoves.{Stays, Opened, Entered, IsFree, enters, moves, stays_quiet}
use Rattle.lk_place.proofs.Ranges.{Follow, memory_ranges, rises, section_follows}
use Rattle.lk_place.proofs.WalkSteps.{has_first, start_given}
use Rattle.lk_place.proofs.Steps.{event_at, follow-le, step_at, widened}

-- ---- no location waits

-- nothing in a plan moves the location, and no section stands in a region
pub record MovesNothing (plan : Plan) : Type 0 where
  pub events : (k : ℕ) (e : OrderEvent) → slice_get plan.events k ≡ Some e → IsAboutPlace e
  pub free : IsFree plan

no_region : (regions : List Region) (name : Option (List ℕ)) (r : ℕ) → regions ≡ [] → named_region regions name ≡ Within r → ⊥
no_region regions None r none h = absurd (cc)
no_region regions (Some name) r none h =
    let there : numbered_region (position (λ q. bytes_eq q.name name) regions) ≡ Undeclared = ap (λ (rs : List Region). numbered_region (position (λ q. bytes_eq q.name name) rs)) none in
    absurd (cc)

pub unmoved_plan : (plan : Plan) (kind : OutputKind) → IsUnmoved plan kind → MovesNothing plan
unmoved_plan plan kind may =
    record { events = may.events; free = λ s r h. let none : stands_in plan s ≡ Free = ap (named_region plan.regions) (may.sections s) in absurd (cc) }

pub plain_plan : (plan : Plan) (kind : OutputKind) → IsPlain plan kind → MovesNothing plan
plain_plan plan kind plain = record { events = plain.unmoved; free = λ s r h. no_region plan.regions (section_at plan.sections s).region r plain.regions h }

waits_first : (r : Result ℕ PlaceError) (c : Cursors) → (r >>= λ memory. Ok (first_cursors memory)) ≡ Ok c → c.pending ≡ None
waits_first (Ok memory) c h = let same : first_cursors memory ≡ c = cc in sym (ap (λ (d : Cursors). d.pending) same)
waits_first (Err e) c h = absurd (cc)

-- before all events no location waits
nothing_first : (setting : Setting) (states : List Cursors) → BeginsAt (start setting) states → 0 < length states → (state_at states 0).pending ≡ None
nothing_first setting states begins some =
    let given : start setting ≡ Ok (first_state setting) = start_given (start setting) states begins some in
    let first : state_at states 0 ≡ first_state setting = get_or_from_slice_get states 0 (first_state setting) no_cursors (has_first (start setting) (first_state setting) states given begins) in
    ap (λ (c : Cursors). c.pending) first ∙ waits_first (begun_memory setting.plan setting.groups setting.headers) (first_state setting) given

places_quietly : (setting : Setting) (standing : PlacedRecords) (o : Option ℕ) (entered to : Cursors) (records : List Record) → Places setting standing o entered records to → to.pending ≡ entered.pending
places_quietly setting standing None entered to records h = ap (λ (c : Cursors). c.pending) h
places_quietly setting standing (Some s) entered to records h = ap (λ (c : Cursors). c.pending) h.placed.leaves

-- where nothing moves the location, none ever waits
pub never_waits : (setting : Setting) (states : List Cursors) (records : List Record) → IsReady setting → IsPlaced setting states records → MovesNothing setting.plan
    → (k : ℕ) → k < length states → (state_at states k).pending ≡ None
never_waits setting states records ready is unmoved zero less = nothing_first setting states is.begins less
never_waits setting states records ready is unmoved (suc k) less =
    let event = event_at setting states records k is (omega arith) in
    let step = step_at setting states records k event.0 ready is (omega arith) event.1 in
    let before : (state_at states k).pending ≡ None = never_waits setting states records ready is unmoved k (omega arith) in
    ap (λ (n : ℕ). (state_at states n).pending) (sym (add-one k))
    ∙ places_quietly setting (known_before setting states records k).standing (placed_section event.0) step.entered (state_at states (k + 1)) records step.places
    ∙ stays_quiet setting (known_before setting states records k) event.0 (state_at states k) step.entered unmoved.free (unmoved.events k event.0 event.1) before step.moves

-- ---- in memory

whole_output : (kind : OutputKind) → kind ≢ output.Partial → not (is_partial kind) ≡ true
whole_output output.StaticExecutable whole = refl
whole_output output.DynamicExecutable whole = refl
whole_output output.SharedObject whole = refl
whole_output output.Partial whole = absurd (whole refl)

abbrev FollowInMemory : Setting → List Record → ℕ → ℕ → ℕ → Type 0
FollowInMemory setting records s low high = Follow (λ r. r.mem_offset) mem_end records (first_part setting.plan.sections s) (part_count setting.plan.sections s) low high

-- what is free rises with memory, where what is saved stays
free_rises : (c d : Cursors) → d.saved ≡ c.saved → c.memory ≤ d.memory → free_memory c ≤ free_memory d
free_rises c d same rises =
    let along : free_memory d ≡ unwrap_or c.saved d.memory = ap (λ (o : Option ℕ). unwrap_or o d.memory) same in
    let rest : unwrap_or c.saved c.memory ≤ unwrap_or c.saved d.memory =
    elim c.saved as (λ (o : Option ℕ). unwrap_or o c.memory ≤ unwrap_or o d.memory) [ None ↦ rises | (Some m) ↦ omega arith ] in
    omega (arith, along, rest)

entered_free : (setting : Setting) (states : List Cursors) (records : List Record) → IsSoundlySet setting states records
    → (known : Known) (e : OrderEvent) (from entered : Cursors) → IsFree setting.plan → IsAboutPlace e → from.pending ≡ None → moved setting known e from ≡ Ok entered → free_memory from ≤ free_memory entered
entered_free setting states records set known e from entered free about quiet h =
    elim (moves setting known e from entered free about quiet h) [
      | Stays same ↦ omega (arith, ap free_memory same)
      | Opened opens ↦ omega (
        arith,
        ap (λ (o : Option ℕ). unwrap_or o entered.memory) opens.saved,
        opens.memory,
        set.lawful.after (place_alignment setting opens.segment) from.file (free_memory from) (place_aligned setting opens.segment set.ready.sections set.page),
      )
      | Entered s is begun ↦ begun.free
    ]

-- in whole output an allocated section takes addresses
pub addressed : (setting : Setting) (s : ℕ) → is_allocated setting.plan s ≡ true → setting.output ≢ output.Partial → takes_addresses setting s ≡ true
addressed setting s allocated whole =
    ap (λ a. a && not (is_partial setting.output)) allocated ∙ whole_output setting.output whole

section_in_memory : (setting : Setting) (s : ℕ) (entered to : Cursors) (records : List Record) → takes_addresses setting s ≡ true → PlacesSection setting s entered records to
    → FollowInMemory setting records s entered.memory to.memory
section_in_memory setting s entered to records allocated h =
    let end : Offsets = reached setting s records (section_start setting s entered) (part_count setting.plan.sections s) in
    let begins : (section_start setting s entered).memory ≡ entered.memory = ap (λ b. if b then entered.memory else 0) allocated in
    let ends : end.memory ≡ to.memory = sym (ap (λ (c : Cursors). c.memory) h.leaves ∙ ap (λ b. if b then end.memory else entered.memory) allocated) in
    subst (λ n. FollowInMemory setting records s entered.memory n) ends
    (subst (λ n. FollowInMemory setting records s n end.memory) begins
    (section_follows (λ r. r.mem_offset) mem_end (λ c. c.memory) memory_ranges setting s entered to records h))

section_in_place : (setting : Setting) (s : ℕ) (entered to : Cursors) (records : List Record) (b : Bool) → takes_addresses setting s ≡ b → PlacesSection setting s entered records to
    → entered.memory ≤ to.memory
section_in_place setting s entered to records true is h =
    follow-le (λ r. r.mem_offset) mem_end records (first_part setting.plan.sections s) (part_count setting.plan.sections s) entered.memory to.memory (section_in_memory setting s entered to records is h)
section_in_place setting s entered to records false is h =
    let end : Offsets = reached setting s records (section_start setting s entered) (part_count setting.plan.sections s) in
    omega (arith, ap (λ (c : Cursors). c.memory) h.leaves ∙ ap (λ b. if b then end.memory else entered.memory) is)

places_in_memory : (setting : Setting) (standing : PlacedRecords) (o : Option ℕ) (entered to : Cursors) (records : List Record) → Places setting standing o entered records to → free_memory entered ≤ free_memory to
places_in_memory setting standing None entered to records h = omega (arith, ap free_memory h)
places_in_memory setting standing (Some s) entered to records h =
    free_rises entered to (ap (λ (c : Cursors). c.saved) h.placed.leaves) (section_in_place setting s entered to records (takes_addresses setting s) refl h.placed)

-- what is free of memory never falls
pub memory_rises : (setting : Setting) (states : List Cursors) (records : List Record) → IsSoundlySet setting states records → MovesNothing setting.plan
    → (k : ℕ) → k < length states - 1 → free_memory (state_at states k) ≤ free_memory (state_at states (k + 1))
memory_rises setting states records set unmoved k less =
    let event = event_at setting states records k set.placed less in
    let step = step_at setting states records k event.0 set.ready set.placed less event.1 in
    omega (
      arith,
      entered_free setting states records set (known_before setting states records k) event.0 (state_at states k) step.entered unmoved.free (unmoved.events k event.0 event.1)
          (never_waits setting states records set.ready set.placed unmoved k (omega arith)) step.moves,
      places_in_memory setting (known_before setting states records k).standing (placed_section event.0) step.entered (state_at states (k + 1)) records step.places,
    )

-- the parts of a section that has memory follow one another in what is free between the cursors round its event
pub memory_follows : (setting : Setting) (states : List Cursors) (records : List Record) → IsSoundlySet setting states records → MovesNothing setting.plan → setting.output ≢ output.Partial
    → (k s : ℕ) → k < length states - 1 → slice_get setting.plan.events k ≡ Some (Section s) → has_memory setting.plan s ≡ true
    → FollowInMemory setting records s (free_memory (state_at states k)) (free_memory (state_at states (k + 1)))
memory_follows setting states records set unmoved whole k s less here memory =
    let step = step_at setting states records k (Section s) set.ready set.placed less here in
    let has = and_parts (is_allocated setting.plan s) _ memory in
    let from : Cursors = state_at states k in
    let to : Cursors = state_at states (k + 1) in
    let quiet : from.pending ≡ None = never_waits setting states records set.ready set.placed unmoved k (omega arith) in
    let taken = (enters setting (known_before setting states records k) s from step.entered unmoved.free quiet step.moves).taken (not-true (is_zero_fill_thread_local setting.plan s) has.1) in
    let places : PlacesSection setting s step.entered records to = step.places.placed in
    let unsaved : to.saved ≡ None = ap (λ (c : Cursors). c.saved) places.leaves ∙ taken.1 in
    let behind : free_memory to ≡ to.memory = ap (λ (o : Option ℕ). unwrap_or o to.memory) unsaved in
    widened (λ r. r.mem_offset) mem_end records (first_part setting.plan.sections s) (part_count setting.plan.sections s) step.entered.memory to.memory (free_memory from) (free_memory to)
    (section_in_memory setting s step.entered to records (addressed setting s has.0 whole) places) (omega (arith, taken.0)) (omega (arith, behind))
