-- The placement, computed from front to back. Contracts of private functions speak of it; that it is the placement that
-- `Placement` defines is proved by lemmas.
use Rattle.std.specs.Prelude.{◌≡◌, ℕ, zero, suc, ◌+◌, ◌==◌, true, ◌<◌, if◌then◌else◌, List, ◌++◌, length, map}
use Rattle.std.specs.Prelude.{slice_get, Option, Some, None, Result, Ok, Err}
use Rattle.std.specs.List.{enumerate_from, flat_map, slice_index}
use Rattle.lk_link.specs.declared.plan.OrderEvent.{OrderEvent}
use Rattle.lk_link.specs.declared.plan.Plan.{Plan}
use Rattle.lk_link.specs.Inside.{placed_section}
use Rattle.lk_link.specs.Parts.{all_parts, first_part}
use Rattle.lk_link.specs.PlanSections.{is_file_backed}
use Rattle.lk_link.specs.Target.{platform_target}
use Rattle.lk_place.specs.declared.alignments.Alignments.{Alignments}
use Rattle.lk_place.specs.declared.cursors.Cursors.{Cursors}
use Rattle.lk_place.specs.declared.cursors.Offsets.{Offsets}
use Rattle.lk_place.specs.declared.error.PlaceError.{PlaceError}
use Rattle.lk_place.specs.declared.error.PlaceError.TheVariants.{NoMemory}
use Rattle.lk_place.specs.declared.error.Refusal.{Refusal}
use Rattle.lk_place.specs.declared.placement.Placing.{Placing}
use Rattle.lk_place.specs.declared.walk.Walk.{Walk}
use Rattle.lk_place.specs.Alignments.{section_alignment, section_alignments, segment_alignments, thread_local_alignment}
use Rattle.lk_place.specs.Counters.{told_counter}
use Rattle.lk_place.specs.InRegions.{named_region, places_in, span_of}
use Rattle.lk_place.specs.AtHand.{AreAtHand}
use Rattle.lk_place.specs.Placement.{first_record, first_walked, is_below, load_given, loaded_by, moved, next_record, numbered, overflow_at, record_by, refusal_of, section_left, section_overflow, section_start, unless}
use Rattle.lk_expressions.specs.Expressions.{◌>>=◌}
use Rattle.lk_place.specs.PlacedBefore.{Known, PlacedRecords, last_before, lies_in, standing_before}
use Rattle.lk_expressions.specs.Records.{Record, nowhere, record_at}
use Rattle.lk_place.specs.Setting.{IsReady, Setting, part_count, setting_of}
use Rattle.lk_place.specs.Regions.{given_regions, regions_of}
use Rattle.lk_place.specs.Start.{constants_by, first_cursors, start}
use Rattle.lk_place.specs.Tables.{ArePlacedAt}

-- the cursors of a start that isn't refused
abbrev pub begun : Result Cursors PlaceError → Cursors
begun (Ok c) = c
begun (Err e) = first_cursors 0

-- the cursors at which the walk begins: those of the placement
abbrev pub first_state : Setting → Cursors
first_state setting = begun (start setting)

-- the setting of a walk
abbrev pub setting_in : {P : Type 0} → (P → ℕ → ℕ → ℕ → ℕ) → Walk P → Setting
setting_in start walk = setting_of walk.link.now (platform_target (start walk.platform.now)) walk.sizes.now walk.unplaced.now.headers walk.unplaced.now.positions.now

-- these are the alignments of the sections and segments of a plan, and the greatest of its thread-local sections
pub record AreAlignments (plan : Plan) (sizes : List ℕ) (all : Alignments) : Type 0 where
  pub sections : all.sections ≡ section_alignments plan sizes
  pub segments : all.segments ≡ segment_alignments plan sizes
  pub thread_local : all.thread_local ≡ thread_local_alignment plan sizes

-- the plan of a walk can be walked, and the alignments of its sections and segments, what expressions speak of, and the events that
-- place parts are at hand
pub record IsWalkable {P : Type 0} (start : P → ℕ → ℕ → ℕ → ℕ) (walk : Walk P) : Type 0 where
  pub ready : IsReady (setting_in start walk)
  pub aligned : AreAlignments walk.link.now.plan walk.sizes.now walk.alignments.now
  pub groups : walk.unplaced.now.link.now.groups ≡ walk.link.now.groups
  pub regions : walk.unplaced.now.regions.now ≡ given_regions (regions_of walk.link.now.plan.regions)
  pub constants : AreAtHand walk.link.now.plan (constants_by walk.link.now.groups walk.unplaced.now.headers walk.unplaced.now.regions.now) walk.unplaced.now.constants.now
  pub section_regions : walk.section_regions.now ≡ map (λ s. named_region walk.link.now.plan.regions s.region) walk.link.now.plan.sections
  pub placed_at : ArePlacedAt walk.link.now.plan (length walk.link.now.plan.events) walk.placed_at.now

-- offsets, unless they are past 2^64 - 1
abbrev pub fitting : Offsets → Result Offsets Refusal
fitting c = unless (overflow_at c) c

-- each record is made what f makes of it, by its number
abbrev pub Rewrites : (ℕ → Record → Record) → List Record → List Record → Type 0
Rewrites f old new = (p : ℕ) → record_at new p ≡ f p (record_at old p)

-- where a region goes on behind an event that leaves these cursors
abbrev pub went_on : Plan → Option OrderEvent → Cursors → ℕ → ℕ → ℕ
went_on plan event to r old = if places_in plan r event then to.memory else old

-- each region goes on where an event that leaves these cursors makes it
abbrev pub GoesOn : Plan → Option OrderEvent → Cursors → List ℕ → List ℕ → Type 0
GoesOn plan event to old new = (r : ℕ) → slice_index new r ≡ went_on plan event to r (slice_index old r)

-- what is known at an event, by the tables of records and of regions
abbrev pub known_in : Plan → List Record → List ℕ → ℕ → Known
known_in plan records goes_on n = record { standing = standing_before plan records n; last = last_before plan.events n; goes_on = slice_index goes_on }

-- ---- one section

-- what is told of a section that is placed is so
pub record IsPlacing (setting : Setting) (placing : Placing) : Type 0 where
  pub backed : placing.backed ≡ is_file_backed setting.plan placing.section
  pub greatest : placing.greatest ≡ section_alignment setting placing.section
  pub walked : placing.walked ≡ first_walked setting placing.section
  pub first : placing.first ≡ first_record setting placing.section placing.begin
  pub below : is_below placing.begin ≡ true

-- the record that part q gets behind the offsets, and no other
abbrev pub one_written : Setting → ℕ → Offsets → ℕ → Offsets → ℕ → Record → Record
one_written setting s begin q from p old = if p == q then next_record setting s begin q from else old

-- what the parts of a section that begin here make of the record of part p
abbrev pub all_written : Setting → ℕ → Offsets → ℕ → Record → Record
all_written setting s begin p old =
    if lies_in (first_part setting.plan.sections s) (part_count setting.plan.sections s) p then record_by setting s begin p else old

-- what the load address of a section makes of the record of part p
abbrev pub all_loaded : Setting → ℕ → Option ℕ → ℕ → Record → Record
all_loaded setting s load p old = if lies_in (first_part setting.plan.sections s) (part_count setting.plan.sections s) p then loaded_by load old else old

-- a load address that is given, if there is one
abbrev pub load_or_none : Result (Option ℕ) Refusal → Option ℕ
load_or_none (Ok load) = load
load_or_none (Err refusal) = None

-- that of a section that is placed from the cursors on
abbrev pub load_of : Setting → PlacedRecords → ℕ → Cursors → Option ℕ
load_of setting standing s from = load_or_none (load_given setting standing s from)

-- the cursors behind a section that is placed from the cursors on, and loaded, or the refusal
abbrev pub left_loaded : Setting → PlacedRecords → ℕ → Cursors → Result Cursors Refusal
left_loaded setting standing s from = unless (section_overflow setting s from) (section_left setting s from) >>= λ to. load_given setting standing s from >>= λ load. Ok to

-- what a section makes of it: it is written, and loaded
unfoldable pub rewritten : Setting → PlacedRecords → Option ℕ → Cursors → ℕ → Record → Record
rewritten setting standing None from p old = old
rewritten setting standing (Some s) from p old = all_loaded setting s (load_of setting standing s from) p (all_written setting s (section_start setting s from) p old)

-- the cursors behind it
unfoldable pub left_behind : Setting → Option ℕ → Cursors → Cursors
left_behind setting None from = from
left_behind setting (Some s) from = section_left setting s from

-- ---- one event

-- the cursors that an event gives, or the refusal
abbrev pub cursors_of : Result (Cursors × List Record) Refusal → Result Cursors Refusal
cursors_of (Ok given) = Ok given.0
cursors_of (Err refusal) = Err refusal

-- the cursors after a move, those before it where it is refused
abbrev pub after_move : Cursors → Result Cursors Refusal → Cursors
after_move from (Ok entered) = entered
after_move from (Err refusal) = from

-- the cursors behind what an event does before it places a section
abbrev pub entered : Setting → Known → OrderEvent → Cursors → Cursors
entered setting known e from = after_move from (moved setting known e from)

-- the cursors behind an event
abbrev pub left_by : Setting → Known → Option OrderEvent → Cursors → Cursors
left_by setting known None from = from
left_by setting known (Some e) from = left_behind setting (placed_section e) (entered setting known e from)

-- what an event makes of the record of part p
abbrev pub recorded : Setting → Known → Option OrderEvent → Cursors → ℕ → Record → Record
recorded setting known None from p old = old
recorded setting known (Some e) from p old = rewritten setting known.standing (placed_section e) (entered setting known e from) p old

-- ---- all events

-- a list of records by part
abbrev pub listed : Setting → (ℕ → Record) → List Record
listed setting f = map (λ q. f q.0) (enumerate_from 0 (all_parts setting.plan.sections))

-- what is known before event k, by the records so far and where regions go on
abbrev pub known_by : Setting → (ℕ → Record) → (ℕ → ℕ) → ℕ → Known
known_by setting records goes_on k = record {
  standing = standing_before setting.plan (listed setting records) k;
  last = last_before setting.plan.events k;
  goes_on = goes_on;
}

-- the cursors, the record of each part and where each region goes on, behind the first k events
unfoldable pub walk_after : Setting → ℕ → Cursors × (ℕ → Record) × (ℕ → ℕ)
walk_after setting zero = (first_state setting, λ p. nowhere, λ r. (span_of setting r).0)
walk_after setting (suc k) =
    let before = walk_after setting k in
    let known = known_by setting before.1 before.2 k in
    let event = slice_get setting.plan.events k in (
      left_by setting known event before.0,
      λ p. recorded setting known event before.0 p (before.1 p),
      λ r. went_on setting.plan event (left_by setting known event before.0) r (before.2 r),
    )

-- the cursors alone
abbrev pub cursors_after : Setting → ℕ → Cursors
cursors_after setting k = (walk_after setting k).0

-- the record of part p alone
abbrev pub record_after : Setting → ℕ → ℕ → Record
record_after setting k p = (walk_after setting k).1 p

-- where region r goes on
abbrev pub goes_on_after : Setting → ℕ → ℕ → ℕ
goes_on_after setting k r = (walk_after setting k).2 r

-- the records of all parts
abbrev pub records_after : Setting → ℕ → List Record
records_after setting k = listed setting (walk_after setting k).1

-- what is known then
abbrev pub known_after : Setting → ℕ → Known
known_after setting k = known_by setting (record_after setting k) (goes_on_after setting k) k

-- the refusal of event k, if there is one
abbrev pub refused_at : Setting → ℕ → Option PlaceError
refused_at setting k = refusal_of setting (known_after setting k) k (slice_get setting.plan.events k) (cursors_after setting k)

-- none of the first n events is refused
abbrev pub AllPass : Setting → ℕ → Type 0
AllPass setting n = (k : ℕ) → k < n → refused_at setting k ≡ None

-- an event is refused by this, and none before it
pub record StopsBy (setting : Setting) (e : PlaceError) : Type 0 where
  pub k : ℕ
  pub before : AllPass setting k
  pub here : refused_at setting k ≡ Some e

-- what event k tells of the location counter
abbrev pub told_after : Setting → ℕ × OrderEvent → List ℕ
told_after setting q = told_counter q.1 (cursors_after setting (q.0 + 1)).pending

-- what all events tell of it
abbrev pub counters_after : Setting → List ℕ
counters_after setting = flat_map (told_after setting) (enumerate_from 0 setting.plan.events)

-- the records behind all events, and what they tell of the location counter
abbrev pub IsWalked : Setting → List Record → List ℕ → List ℕ → Type 0
IsWalked setting records before counters =
    let n = length setting.plan.events in
    AllPass setting n × ((p : ℕ) → record_at records p ≡ record_after setting n p) × (counters ≡ before ++ counters_after setting)

-- that, or the first refusal, or want of memory
abbrev pub GivesWalked : Setting → Result (Unit {0}) PlaceError → List Record → List ℕ → List ℕ → Type 0
GivesWalked setting (Ok done) records before counters = IsWalked setting records before counters
GivesWalked setting (Err NoMemory) records before counters = Unit {0}
GivesWalked setting (Err e) records before counters = StopsBy setting e

-- what an event gave, its refusal told with the event's number
abbrev pub at_event : Result Cursors Refusal → ℕ → Result Cursors PlaceError
at_event (Ok to) k = Ok to
at_event (Err refusal) k = Err (numbered k refusal)
