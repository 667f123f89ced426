-- What each event does to the cursor of the file, and where the parts stand there that it places.
use Rattle.std.proofs.Common.{◌≡◌, ℕ, ◌+◌, ◌-◌, ◌≤◌, ◌<◌, List, length, Option, Some, None, sym, ap, subst, arith}
use Rattle.std.specs.Prelude.{slice_get}
use Rattle.std.specs.List.{slice_index_or}
use Rattle.std.proofs.lemmas.Option.{slice_get-get_or}
use Rattle.lk_link.specs.declared.plan.OrderEvent.{OrderEvent}
use Rattle.lk_link.specs.declared.plan.OrderEvent.TheVariants.{SegmentEnd, Section}
use Rattle.lk_link.specs.Inside.{placed_section}
use Rattle.lk_link.specs.Parts.{first_part}
use Rattle.lk_place.specs.declared.cursors.Cursors.{Cursors}
use Rattle.lk_place.specs.declared.cursors.Offsets.{Offsets}
use Rattle.lk_place.specs.PlacedBefore.{PlacedRecords}
use Rattle.lk_place.specs.Placement.{IsPlaced, known_before, section_start, state_at}
use Rattle.lk_place.specs.CarriedOut.{Places, PlacesSection, CarriesOut, reached}
use Rattle.lk_expressions.specs.Records.{Record, file_end}
use Rattle.lk_place.specs.Setting.{IsReady, Setting, part_count}
use Rattle.lk_place.proofs.Moves.{file_grows}
use Rattle.lk_place.proofs.Passing.{events_are_carried_out}
use Rattle.lk_place.proofs.Ranges.{Follow, file_ranges, rises, section_follows}

-- what follows from low to high follows from lower to higher
pub widened : (begin end : Record → ℕ) (records : List Record) (first count low high low' high' : ℕ) → Follow begin end records first count low high → low' ≤ low → high ≤ high'
    → Follow begin end records first count low' high'
widened begin end records first count low high low' high' h le ge =
    record { at = h.at; begins = omega (arith, h.begins); rises = h.rises; each = h.each; ends = omega (arith, h.ends) }

pub follow-le : (begin end : Record → ℕ) (records : List Record) (first count low high : ℕ) → Follow begin end records first count low high → low ≤ high
follow-le begin end records first count low high h = omega (arith, h.begins, h.ends, rises h.at count h.rises 0 count (omega arith) (omega arith))

-- the event with a number among the states
pub event_at : (setting : Setting) (states : List Cursors) (records : List Record) (k : ℕ) → IsPlaced setting states records → k < length states - 1
    → (e : OrderEvent) × (slice_get setting.plan.events k ≡ Some e)
event_at setting states records k is less =
    (slice_index_or setting.plan.events k (SegmentEnd 0), slice_get-get_or setting.plan.events k (SegmentEnd 0) (omega (arith, is.within)))

pub step_at : (setting : Setting) (states : List Cursors) (records : List Record) (k : ℕ) (e : OrderEvent) → IsReady setting → IsPlaced setting states records → k < length states - 1
    → slice_get setting.plan.events k ≡ Some e → CarriesOut setting (known_before setting states records k) e (state_at states k) records (state_at states (k + 1))
step_at setting states records k e ready is less here = events_are_carried_out setting states records ready is k e (omega arith) here

abbrev FollowInFile : Setting → List Record → ℕ → ℕ → ℕ → Type 0
FollowInFile setting records s low high = Follow (λ r. r.file_offset) file_end records (first_part setting.plan.sections s) (part_count setting.plan.sections s) low high

section_in_file : (setting : Setting) (s : ℕ) (entered to : Cursors) (records : List Record) → PlacesSection setting s entered records to → FollowInFile setting records s entered.file to.file
section_in_file setting s entered to records h =
    let end : Offsets = reached setting s records (section_start setting s entered) (part_count setting.plan.sections s) in
    let ends : to.file ≡ end.file = ap (λ (c : Cursors). c.file) h.leaves in
    subst (λ n. FollowInFile setting records s entered.file n) (sym ends) (section_follows (λ r. r.file_offset) file_end (λ c. c.file) file_ranges setting s entered to records h)

places_in_file : (setting : Setting) (standing : PlacedRecords) (o : Option ℕ) (entered to : Cursors) (records : List Record) → Places setting standing o entered records to → entered.file ≤ to.file
places_in_file setting standing None entered to records h = omega (arith, ap (λ (c : Cursors). c.file) h)
places_in_file setting standing (Some s) entered to records h =
    follow-le (λ r. r.file_offset) file_end records (first_part setting.plan.sections s) (part_count setting.plan.sections s) entered.file to.file (section_in_file setting s entered to records h.placed)

-- the cursor of the file never falls
pub file_rises : (setting : Setting) (states : List Cursors) (records : List Record) → IsReady setting → IsPlaced setting states records
    → (k : ℕ) → k < length states - 1 → (state_at states k).file ≤ (state_at states (k + 1)).file
file_rises setting states records ready is k less =
    let event = event_at setting states records k is less in
    let step = step_at setting states records k event.0 ready is less event.1 in
    omega (
      arith,
      file_grows setting (known_before setting states records k) event.0 (state_at states k) step.entered step.moves,
      places_in_file setting (known_before setting states records k).standing (placed_section event.0) step.entered (state_at states (k + 1)) records step.places,
    )

-- the parts that an event places follow one another between the cursors round it
pub file_follows : (setting : Setting) (states : List Cursors) (records : List Record) → IsReady setting → IsPlaced setting states records
    → (k s : ℕ) → k < length states - 1 → slice_get setting.plan.events k ≡ Some (Section s) → FollowInFile setting records s (state_at states k).file (state_at states (k + 1)).file
file_follows setting states records ready is k s less here =
    let step = step_at setting states records k (Section s) ready is less here in
    let from : Cursors = state_at states k in
    let to : Cursors = state_at states (k + 1) in
    widened (λ r. r.file_offset) file_end records (first_part setting.plan.sections s) (part_count setting.plan.sections s) step.entered.file to.file from.file to.file
    (section_in_file setting s step.entered to records step.places.placed) (file_grows setting (known_before setting states records k) (Section s) from step.entered step.moves) (omega arith)
