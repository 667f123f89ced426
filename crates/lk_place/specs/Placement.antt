-- Where everything is placed: the cursors round each event up to the first that is refused, and the records of all parts.
use Rattle.std.specs.Prelude.{◌≡◌, ℕ, zero, suc, ◌+◌, ◌-◌, ◌^◌, ◌<◌, ◌≤◌, ◌==◌, ◌&&◌, ◌||◌, Bool, false, if◌then◌else◌}
use Rattle.std.specs.Prelude.{List, [], length, map, min, nat_lt, slice_get, Option, Some, None, Result, Ok, Err, is_some, position, unwrap_or}
use Rattle.std.specs.Int.{next_multiple_of}
use Rattle.std.specs.List.{slice_index_or}
use Rattle.std.specs.Option.{option_map_or}
use Rattle.lk_link.specs.declared.fault.Place.TheVariants as place
use Rattle.lk_link.specs.declared.plan.OrderEvent.{OrderEvent}
use Rattle.lk_link.specs.declared.plan.OrderEvent.TheVariants.{Section, SegmentEnd, SegmentStart, SetLocation, SetLocationRelative, SetSectionAddress}
use Rattle.lk_link.specs.Expressions.{Term}
use Rattle.lk_link.specs.Inside.{placed_section}
use Rattle.lk_link.specs.Parts.{all_parts, first_part, part_at}
use Rattle.lk_link.specs.PlanSections.{is_file_backed, primary_of, section_at}
use Rattle.lk_link.specs.SegmentKinds.{is_load, segment_at}
use Rattle.lk_place.specs.declared.cursors.Cursors.{Cursors}
use Rattle.lk_place.specs.declared.cursors.Offsets.{Offsets}
use Rattle.lk_place.specs.declared.error.PlaceError.{PlaceError}
use Rattle.lk_place.specs.declared.error.PlaceError.TheVariants.{AddressOverflow, Expression, LocationBackwards, OutsideRegion, RegionOverflow, RegionUnknown}
use Rattle.lk_place.specs.declared.error.Refusal.{Refusal}
use Rattle.lk_place.specs.declared.error.Refusal.TheVariants.{Backwards, NoLoadAddress, NoValue, Outside, Overflow, Past, Undeclared}
use Rattle.lk_place.specs.Alignments.{numbered_parts, place_alignment, section_alignment}
use Rattle.lk_expressions.specs.Expressions.{Valued, ◌>>=◌}
use Rattle.lk_place.specs.InRegions.{goes_on_by, in_region, inside_region, past_region, stands_in}
use Rattle.lk_place.specs.Locations.{awaiting, behind_start, opened_at, taken}
use Rattle.lk_place.specs.PlacedBefore.{Known, PlacedRecords, early_value, is_placed_before, last_before, lies_in, standing_before, value_at}
use Rattle.lk_expressions.specs.Records.{Record, file_end, mem_end, nowhere, record_at}
use Rattle.lk_place.specs.Segments.{hull, part_records}
use Rattle.lk_place.specs.Setting.{Setting, has_bytes, of_parts, part_count, part_number, size_at, takes_addresses}
use Rattle.lk_place.specs.Start.{BeginsAt, no_cursors, start}
use Rattle.lk_place.specs.ThreadLocal.{is_in_run, restoring, run_begun, saved_or_restored}

-- ---- the parts of a section

-- the number of a section's first walked part: its first with bytes, else its first
abbrev pub first_walked : Setting → ℕ → ℕ
first_walked setting s =
    let sections = setting.plan.sections in
    part_number sections s (unwrap_or (position (nat_lt 0) (of_parts sections setting.sizes s)) 0)

-- the parts with bytes are walked; where there are none, the first part is
abbrev pub is_walked : Setting → ℕ → ℕ → Bool
is_walked setting s p = has_bytes setting.sizes p || (p == first_walked setting s)

-- the first walked part is placed at its section's alignment, each other one at the lesser of its own and that
abbrev pub walk_alignment : Setting → ℕ → ℕ → ℕ
walk_alignment setting s p =
    if p == first_walked setting s then section_alignment setting s
    else min (part_at setting.plan.sections p).alignment (section_alignment setting s)

-- the offsets behind a part
abbrev pub behind : Record → Offsets
behind r = record { file = file_end r; memory = mem_end r }

-- the record of a part that is placed from the offsets on, and loaded from where it stands: it starts at the next multiple of its
-- alignment, in the file too where the section is backed by it, else where that offset stands
unfoldable pub placed_at : Bool → ℕ → ℕ → Offsets → Record
placed_at backed alignment size from = record {
  file_size = if backed then size else 0;
  mem_size = size;
  alignment = alignment;
  file_offset = if backed then next_multiple_of from.file alignment else from.file;
  mem_offset = next_multiple_of from.memory alignment;
  lma_offset = next_multiple_of from.memory alignment;
}

-- that of a part that isn't walked: it has no bytes, and rests where the first walked one starts
abbrev pub resting : Record → ℕ → Record
resting first own = record {
  file_size = 0;
  mem_size = 0;
  alignment = own;
  file_offset = first.file_offset;
  mem_offset = first.mem_offset;
  lma_offset = first.mem_offset;
}

-- that of walked part p of a section
abbrev pub walked_from : Setting → ℕ → ℕ → Offsets → Record
walked_from setting s p from = placed_at (is_file_backed setting.plan s) (walk_alignment setting s p) (size_at setting.sizes p) from

-- the record of the first walked part of a section whose parts begin here
abbrev pub first_record : Setting → ℕ → Offsets → Record
first_record setting s begin = walked_from setting s (first_walked setting s) begin

-- the record of part p of a section whose parts begin here, behind the offsets
abbrev pub next_record : Setting → ℕ → Offsets → ℕ → Offsets → Record
next_record setting s begin p from =
    if is_walked setting s p then walked_from setting s p from
    else resting (first_record setting s begin) (part_at setting.plan.sections p).alignment

-- the offsets behind part p of a section, if it is placed from these on: one that isn't walked leaves them
abbrev pub next_end : Setting → ℕ → ℕ → Offsets → Offsets
next_end setting s p from = if is_walked setting s p then behind (walked_from setting s p from) else from

-- where the first j parts of a section end: they stand one behind the other
abbrev pub end_behind : Setting → ℕ → Offsets → ℕ → Offsets
end_behind setting s from zero = from
end_behind setting s from (suc j) = next_end setting s (part_number setting.plan.sections s j) (end_behind setting s from j)

-- where the parts of a section end that begin here
abbrev pub section_end : Setting → ℕ → Offsets → Offsets
section_end setting s begin = end_behind setting s begin (part_count setting.plan.sections s)

-- the record of part p of a section whose parts begin here, behind those before it
abbrev pub record_by : Setting → ℕ → Offsets → ℕ → Record
record_by setting s begin p = next_record setting s begin p (end_behind setting s begin (p - first_part setting.plan.sections s))

-- those of all its parts
abbrev pub records_by : Setting → ℕ → Offsets → List Record
records_by setting s begin = map (λ q. record_by setting s begin q.0) (numbered_parts setting.plan s)

-- ---- a section

-- where a section's parts begin: in place of memory one that takes no addresses counts from 0
abbrev pub section_start : Setting → ℕ → Cursors → Offsets
section_start setting s from = record { file = from.file; memory = if takes_addresses setting s then from.memory else 0 }

-- the cursors behind a section whose parts end here: one that takes no addresses leaves memory where it was
abbrev pub left_at : Setting → ℕ → Cursors → Offsets → Cursors
left_at setting s from end = record from {
  file = end.file;
  memory = if takes_addresses setting s then end.memory else from.memory;
}

-- the cursors behind a section
abbrev pub section_left : Setting → ℕ → Cursors → Cursors
section_left setting s from = left_at setting s from (section_end setting s (section_start setting s from))

-- whether both offsets are below 2^64
abbrev pub is_below : Offsets → Bool
is_below c = nat_lt c.file (2 ^ 64) && nat_lt c.memory (2 ^ 64)

-- the refusal of offsets past 2^64 - 1
abbrev pub overflow_at : Offsets → Option Refusal
overflow_at c = if is_below c then None else Some Overflow

-- the refusal of a section whose parts end past 2^64 - 1
abbrev pub section_overflow : Setting → ℕ → Cursors → Option Refusal
section_overflow setting s from = overflow_at (section_end setting s (section_start setting s from))

-- ---- where a section is loaded from

-- what stands behind a section whose parts begin here: it and its parts, and what stood before it
abbrev pub standing_with : Setting → PlacedRecords → ℕ → Offsets → PlacedRecords
standing_with setting standing s begin = record {
  section = λ t. if s == t then Some (hull (records_by setting s begin)) else standing.section t;
  part = λ p.
      if lies_in (first_part setting.plan.sections s) (part_count setting.plan.sections s) p then Some (record_by setting s begin p)
      else standing.part p;
}

-- a load address, or the refusal of a section whose expression has no value
abbrev pub loading : ℕ → Valued → Result (Option ℕ) Refusal
loading s (Ok n) = Ok (Some n)
loading s (Err cause) = Err (NoLoadAddress s cause)

-- the load address that an expression gives a section, by what stands and the cursors behind it; a section without one has none
abbrev pub load_by : Setting → ℕ → PlacedRecords → Cursors → Option Term → Result (Option ℕ) Refusal
load_by setting s standing behind None = Ok None
load_by setting s standing behind (Some e) = loading s (early_value setting standing behind e)

-- the load address of a section that is placed from the cursors on, if it names one: the value of its expression behind its last part,
-- which may speak of the section itself
abbrev pub load_given : Setting → PlacedRecords → ℕ → Cursors → Result (Option ℕ) Refusal
load_given setting standing s from =
    load_by setting s (standing_with setting standing s (section_start setting s from)) (section_left setting s from) (section_at setting.plan.sections s).at

-- a record, loaded from this address, if there is one
abbrev pub loaded_by : Option ℕ → Record → Record
loaded_by None r = r
loaded_by (Some address) r = record r { lma_offset = address }

-- ---- an event

-- memory moved to here, if that is below 2^64
abbrev pub memory_moved : Cursors → ℕ → Result Cursors Refusal
memory_moved from memory = if nat_lt memory (2 ^ 64) then Ok (record from { memory = memory }) else Err Overflow

-- a load segment opens: where the platform lets it, by its place alignment, or at a location that waits
abbrev pub opened : Setting → ℕ → Cursors → Option ℕ → Result Cursors Refusal
opened setting i from None = memory_moved from (setting.target.segment_start (place_alignment setting i) from.file from.memory)
opened setting i from (Some l) = opened_at (place_alignment setting i) from l

-- a section begins: it saves memory or goes on where it was saved, goes on where its region does, takes a location that waits, inside
-- its region, and may begin a run
abbrev pub begun_section : Setting → (ℕ → ℕ) → Bool → ℕ → Cursors → Result Cursors Refusal
begun_section setting goes_on in_run s from =
    let region = stands_in setting.plan s in
    in_region goes_on s region (saved_or_restored setting.plan s from) >>= λ there.
    inside_region setting region there from.pending >>= λ inside.
    taken setting.plan s inside from.pending >>= run_begun setting in_run s (is_some from.pending)

-- what an event does to the cursors before it places a section, or why it is refused: a load segment opens, where memory goes on where
-- it was saved; a section begins; and what moves the location leaves it waiting, relative to a section not before its primary's start,
-- if that is placed; nothing else moves anything
abbrev pub moved : Setting → Known → OrderEvent → Cursors → Result Cursors Refusal
moved setting known (SegmentStart i) from =
    if is_load (segment_at setting.plan.segments i).kind then opened setting i (restoring from) from.pending else Ok from
moved setting known (Section s) from = begun_section setting known.goes_on (is_in_run setting.plan known.last) s from
moved setting known (SetLocation e) from = awaiting from (value_at setting known.standing from e)
moved setting known (SetLocationRelative e s) from = awaiting from (behind_start (known.standing.section (primary_of setting.plan.sections s)) (value_at setting known.standing from e))
moved setting known (SetSectionAddress e) from = awaiting from (value_at setting known.standing from e)
moved setting known (SegmentEnd i) from = Ok from

-- the refusal, if there is one, else what there is
abbrev pub unless : {X E : Type 0} → Option E → X → Result X E
unless None x = Ok x
unless (Some e) x = Err e

-- a section is placed from the cursors on, unless its parts end past 2^64 - 1; it is loaded, unless its load address has no value; and
-- behind it memory isn't to stand past its region. This gives the cursors behind it, and the records of its parts
abbrev pub section_given : Setting → PlacedRecords → ℕ → Cursors → Result (Cursors × List Record) Refusal
section_given setting standing s from = do
  to ← unless (section_overflow setting s from) (section_left setting s from)
  load ← load_given setting standing s from
  unless (past_region setting (stands_in setting.plan s) to.memory) (to, map (loaded_by load) (records_by setting s (section_start setting s from)))

-- the same of the section of an event; one that places none leaves the cursors
abbrev pub placed_by : Setting → PlacedRecords → Option ℕ → Cursors → Result (Cursors × List Record) Refusal
placed_by setting standing None from = Ok (from, [])
placed_by setting standing (Some s) from = section_given setting standing s from

-- what an event gives: it moves the cursors, and then places its section, if it has one; or the first refusal of these steps
abbrev pub carried_out : Setting → Known → OrderEvent → Cursors → Result (Cursors × List Record) Refusal
carried_out setting known e from = moved setting known e from >>= placed_by setting known.standing (placed_section e)

-- ---- refusals

-- a refusal, told with the event's number
abbrev pub numbered : ℕ → Refusal → PlaceError
numbered k Overflow = AddressOverflow (place.Event k)
numbered k (NoValue cause) = Expression (place.Event k) cause
numbered k (Backwards from to) = LocationBackwards from to
numbered k (Undeclared s) = RegionUnknown s
numbered k (Outside l) = OutsideRegion k l
numbered k (Past r by) = RegionOverflow r by
numbered k (NoLoadAddress s cause) = Expression (place.Section s) cause

-- the refusal of event k, by what it gives
abbrev pub refusal_in : {X : Type 0} → ℕ → Result X Refusal → Option PlaceError
refusal_in k (Ok x) = None
refusal_in k (Err refusal) = Some (numbered k refusal)

-- ---- the placement

-- the cursors before event k, among the states
abbrev pub state_at : List Cursors → ℕ → Cursors
state_at states k = slice_index_or states k no_cursors

-- what is known before event n, by the states and the records of all parts
abbrev pub known_before : Setting → List Cursors → List Record → ℕ → Known
known_before setting states records n = record {
  standing = standing_before setting.plan records n;
  last = last_before setting.plan.events n;
  goes_on = goes_on_by setting (λ k. (state_at states k).memory) n;
}

-- the refusal of the event with this number, if there is one
abbrev pub refusal_of : Setting → Known → ℕ → Option OrderEvent → Cursors → Option PlaceError
refusal_of setting known k None from = None
refusal_of setting known k (Some e) from = refusal_in k (carried_out setting known e from)

-- the refusal of the event behind the last state, if there is one
abbrev pub refusal_behind : Setting → List Cursors → List Record → Option PlaceError
refusal_behind setting states records =
    let k = length states - 1 in
    refusal_of setting (known_before setting states records k) k (slice_get setting.plan.events k) (state_at states k)

-- the refusal of a start, else another, if there is one
abbrev pub first_refusal : Result Cursors PlaceError → Option PlaceError → Option PlaceError
first_refusal (Err e) o = Some e
first_refusal (Ok c) o = o

-- the first refusal: of the start, else of the event behind the last state
abbrev pub placement_refusal : Setting → List Cursors → List Record → Option PlaceError
placement_refusal setting states records = first_refusal (start setting) (refusal_behind setting states records)

-- the records of the parts of the section that an event places, among those of all parts
abbrev pub own_records : Setting → List Record → OrderEvent → List Record
own_records setting records e = option_map_or (part_records setting.plan.sections records) (placed_section e) []

-- states are the cursors before each event up to the first that is refused, and behind the last where none is; there are none where
-- the start is refused. Each event that isn't refused gives the next state, and the records of its section's parts. Records are those
-- of all parts by number, nowhere where no event before the last state places them (libwild: `compute_layout_sections`)
pub record IsPlaced (setting : Setting) (states : List Cursors) (records : List Record) : Type 0 where
  pub begins : BeginsAt (start setting) states
  pub within : length states ≤ length setting.plan.events + 1
  pub steps : (k : ℕ) (e : OrderEvent) → k + 1 < length states → slice_get setting.plan.events k ≡ Some e
      → carried_out setting (known_before setting states records k) e (state_at states k) ≡ Ok (state_at states (k + 1), own_records setting records e)
  pub ends : placement_refusal setting states records ≡ None → length states ≡ length setting.plan.events + 1
  pub each : length records ≡ length (all_parts setting.plan.sections)
  pub others : (p : ℕ) → is_placed_before setting.plan (length states - 1) p ≡ false → record_at records p ≡ nowhere
