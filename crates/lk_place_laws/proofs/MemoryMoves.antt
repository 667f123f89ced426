-- What one event does to the cursors, where no location waits and no section stands in a region.
use Rattle.std.proofs.Common.{◌≡◌, ℕ, ◌+◌, ◌≤◌, Bool, Option, arith, true, false, Some, None, refl, sym, ap, ◌∙◌, ◌⊎◌, inl, inr}
use Rattle.std.specs.Prelude.{if◌then◌else◌, is_some, unwrap_or, Result, Ok}
use Rattle.lk_link.specs.declared.plan.OrderEvent.{OrderEvent}
use Rattle.lk_link.specs.declared.plan.OrderEvent.TheVariants.{SegmentStart, SegmentEnd, Section, SetLocation, SetLocationRelative, SetSectionAddress}
use Rattle.lk_link.specs.declared.plan.Plan.{Plan}
use Rattle.lk_link.specs.PlanSections.{is_file_backed, is_zero_fill_thread_local}
use Rattle.lk_link.specs.SegmentKinds.{is_load, segment_at}
use Rattle.lk_link.specs.WellFormed.{IsAboutPlace}
use Rattle.lk_place.specs.declared.cursors.Cursors.{Cursors}
use Rattle.lk_place.specs.declared.error.Refusal.{Refusal}
use Rattle.lk_place.specs.declared.regions.SectionRegion.{SectionRegion}
use Rattle.lk_place.specs.declared.regions.SectionRegion.TheVariants.{Free, Undeclared, Within}
use Rattle.lk_place.specs.Alignments.{place_alignment}
use Rattle.lk_expressions.specs.Expressions.{◌>>=◌}
use Rattle.lk_place.specs.InRegions.{in_region, inside_region, stands_in}
use Rattle.lk_place.specs.Locations.{taken}
use Rattle.lk_place.specs.PlacedBefore.{Known}
use Rattle.lk_place.specs.Placement.{begun_section, memory_moved, moved, opened}
use Rattle.lk_place.specs.Plain.{IsLoadSegment}
use Rattle.lk_place.specs.Setting.{Setting}
use Rattle.lk_place.specs.ThreadLocal.{free_memory, is_in_run, restoring, run_begun, saved_or_restored, saving}
use Rattle.lk_place.proofs.Moves.{Pads, moved_to, run_pads, same_of}

-- a load segment opens: memory goes on where it was saved, and begins where the machine lets it
pub record Opens (setting : Setting) (e : OrderEvent) (from entered : Cursors) : Type 0 where
  pub segment : ℕ
  pub load : IsLoadSegment setting.plan segment
  pub is : e ≡ SegmentStart segment
  pub file : entered.file ≡ from.file
  pub memory : entered.memory ≡ setting.target.segment_start (place_alignment setting segment) from.file (free_memory from)
  pub saved : entered.saved ≡ None
  pub pending : entered.pending ≡ from.pending

-- where no location waits, an opening is what the machine says of memory that goes on where it was saved
opens_quietly : (setting : Setting) (known : Known) (i : ℕ) (from : Cursors) → from.pending ≡ None
    → moved setting known (SegmentStart i) from
    ≡ (if is_load (segment_at setting.plan.segments i).kind then memory_moved (restoring from) (setting.target.segment_start (place_alignment setting i) from.file (free_memory from)) else Ok from)
opens_quietly setting known i from quiet = ap (λ (o : Option ℕ). if is_load (segment_at setting.plan.segments i).kind then opened setting i (restoring from) o else Ok from) quiet

opens_so : (setting : Setting) (i : ℕ) (from entered : Cursors)
    → (if is_load (segment_at setting.plan.segments i).kind then memory_moved (restoring from) (setting.target.segment_start (place_alignment setting i) from.file (free_memory from)) else Ok from) ≡ Ok entered → (entered ≡ from) ⊎ Opens setting (SegmentStart i) from entered
opens_so setting i from entered =
    let start : ℕ = setting.target.segment_start (place_alignment setting i) from.file (free_memory from) in
    elim (is_load (segment_at setting.plan.segments i).kind) as (λ b. is_load (segment_at setting.plan.segments i).kind ≡ b
    → (if b then memory_moved (restoring from) start else Ok from) ≡ Ok entered → (entered ≡ from) ⊎ Opens setting (SegmentStart i) from entered) [
      | true ↦ λ load h. let there = moved_to (restoring from) entered start h in inr (record { segment = i; load = load; is = refl; file = there.0; memory = there.1; saved = there.2; pending = there.3 })
      | false ↦ λ load h. inl (same_of from entered (Ok from) refl h)
    ] refl

-- where a load segment opens
pub opens_load : (setting : Setting) (known : Known) (i : ℕ) (from entered : Cursors) → from.pending ≡ None → IsLoadSegment setting.plan i → moved setting known (SegmentStart i) from ≡ Ok entered
    → (entered.file ≡ from.file) × (entered.memory ≡ setting.target.segment_start (place_alignment setting i) from.file (free_memory from)) × (entered.saved ≡ None) × (entered.pending ≡ from.pending)
opens_load setting known i from entered quiet load h =
    let start : ℕ = setting.target.segment_start (place_alignment setting i) from.file (free_memory from) in
    moved_to (restoring from) entered start (sym (opens_quietly setting known i from quiet ∙ ap (λ b. if b then memory_moved (restoring from) start else Ok from) load) ∙ h)

-- memory is saved before zero-fill thread-local data, and goes on where it was saved before any other; then it may be padded
pub record Enters (setting : Setting) (s : ℕ) (from entered : Cursors) : Type 0 where
  pub padding : ℕ
  pub file : entered.file ≡ from.file + (if is_file_backed setting.plan s then padding else 0)
  pub free : free_memory from ≤ free_memory entered
  pub taken : is_zero_fill_thread_local setting.plan s ≡ false → (entered.memory ≡ free_memory from + padding) × (entered.saved ≡ None)
  pub kept : is_zero_fill_thread_local setting.plan s ≡ true → entered.saved ≡ Some (free_memory from)
  pub pending : entered.pending ≡ from.pending

saves : (setting : Setting) (s : ℕ) (from entered : Cursors) → is_zero_fill_thread_local setting.plan s ≡ true → Pads setting s (saving from) entered → Enters setting s from entered
saves setting s from entered fills pads =
    let along : free_memory entered ≡ free_memory from = ap (λ (o : Option ℕ). unwrap_or o entered.memory) pads.saved in
    record { padding = pads.padding; file = pads.file; free = omega (arith, along); taken = λ none. absurd (cc); kept = λ is. pads.saved; pending = pads.pending }

restores : (setting : Setting) (s : ℕ) (from entered : Cursors) → is_zero_fill_thread_local setting.plan s ≡ false → Pads setting s (restoring from) entered → Enters setting s from entered
restores setting s from entered filled pads =
    let along : free_memory entered ≡ entered.memory = ap (λ (o : Option ℕ). unwrap_or o entered.memory) pads.saved in
    record { padding = pads.padding; file = pads.file; free = omega (arith, along, pads.memory); taken = λ none. (pads.memory, pads.saved); kept = λ is. absurd (cc); pending = pads.pending }

-- no section stands in a region
abbrev pub IsFree : Plan → Type 0
IsFree plan = (s r : ℕ) → stands_in plan s ≡ Within r → ⊥

-- a section that stands in none begins where memory goes on
begins_freely : (setting : Setting) (goes_on : ℕ → ℕ) (in_run : Bool) (s : ℕ) (from entered : Cursors) → IsFree setting.plan → begun_section setting goes_on in_run s from ≡ Ok entered
    → (taken setting.plan s (saved_or_restored setting.plan s from) from.pending >>= run_begun setting in_run s (is_some from.pending)) ≡ Ok entered
begins_freely setting goes_on in_run s from entered free h =
    let saved : Cursors = saved_or_restored setting.plan s from in
    let begun : SectionRegion → Result Cursors Refusal
    = λ room. in_region goes_on s room saved >>= λ there. inside_region setting room there from.pending >>= λ inside. taken setting.plan s inside from.pending >>= run_begun setting in_run s (is_some from.pending) in
    elim (stands_in setting.plan s) as (λ room. stands_in setting.plan s ≡ room → begun room ≡ Ok entered
    → (taken setting.plan s saved from.pending >>= run_begun setting in_run s (is_some from.pending)) ≡ Ok entered) [
      | Free ↦ λ is g. g
      | Undeclared ↦ λ is g. absurd (cc)
      | (Within r) ↦ λ is g. absurd (free s r is)
    ] refl h

pub enters : (setting : Setting) (known : Known) (s : ℕ) (from entered : Cursors) → IsFree setting.plan → from.pending ≡ None → moved setting known (Section s) from ≡ Ok entered → Enters setting s from entered
enters setting known s from entered free quiet h =
    let saved : Cursors = saved_or_restored setting.plan s from in
    let plainly : run_begun setting (is_in_run setting.plan known.last) s false saved ≡ Ok entered =
    sym (ap (λ (o : Option ℕ). taken setting.plan s saved o >>= run_begun setting (is_in_run setting.plan known.last) s (is_some o)) quiet) ∙ begins_freely setting known.goes_on (is_in_run setting.plan known.last) s from entered free h in
    let pads : Pads setting s saved entered = run_pads setting (is_in_run setting.plan known.last) s false saved entered plainly in
    elim (is_zero_fill_thread_local setting.plan s) as (λ b. is_zero_fill_thread_local setting.plan s ≡ b → Pads setting s (if b then saving from else restoring from) entered → Enters setting s from entered) [
      | true ↦ λ fills padded_too. saves setting s from entered fills padded_too
      | false ↦ λ filled padded_too. restores setting s from entered filled padded_too
    ] refl pads

-- an event that moves no location, where none waits, moves nothing before it places its section, or opens a load segment, or begins a
-- section
pub data Moves (setting : Setting) (e : OrderEvent) (from entered : Cursors) : Type 0 where
  Stays : entered ≡ from → Moves setting e from entered
  Opened : Opens setting e from entered → Moves setting e from entered
  Entered : (s : ℕ) → e ≡ Section s → Enters setting s from entered → Moves setting e from entered

pub moves : (setting : Setting) (known : Known) (e : OrderEvent) (from entered : Cursors) → IsFree setting.plan → IsAboutPlace e → from.pending ≡ None → moved setting known e from ≡ Ok entered → Moves setting e from entered
moves setting known (SegmentStart i) from entered free about quiet h = elim (opens_so setting i from entered (sym (opens_quietly setting known i from quiet) ∙ h)) [ inl same ↦ Stays same | inr opens ↦ Opened opens ]
moves setting known (SegmentEnd i) from entered free about quiet h = Stays (same_of from entered (Ok from) refl h)
moves setting known (Section s) from entered free about quiet h = Entered s refl (enters setting known s from entered free quiet h)
moves setting known (SetLocation x) from entered free about quiet h = absurd about
moves setting known (SetLocationRelative x s) from entered free about quiet h = absurd about
moves setting known (SetSectionAddress x) from entered free about quiet h = absurd about

-- no location waits behind it
pub stays_quiet : (setting : Setting) (known : Known) (e : OrderEvent) (from entered : Cursors) → IsFree setting.plan → IsAboutPlace e → from.pending ≡ None → moved setting known e from ≡ Ok entered → entered.pending ≡ None
stays_quiet setting known e from entered free about quiet h =
    elim (moves setting known e from entered free about quiet h) [
      | Stays same ↦ ap (λ (c : Cursors). c.pending) same ∙ quiet
      | Opened opens ↦ opens.pending ∙ quiet
      | Entered s is begun ↦ begun.pending ∙ quiet
    ]
