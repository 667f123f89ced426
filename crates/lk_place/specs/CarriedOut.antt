-- What a placement promises of each event, by itself: laws of its definition, in which parts start at the least multiples of their alignments.
use Rattle.std.specs.Prelude.{◌≡◌, ◌↔◌, ℕ, zero, suc, ◌+◌, ◌-◌, ◌<◌, Bool, true, false, MatchBool, if◌then◌else◌}
use Rattle.std.specs.Prelude.{List, length, slice_get, Option, Some, None, Ok, unwrap_or}
use Rattle.lk_link.specs.declared.plan.OrderEvent.{OrderEvent}
use Rattle.lk_link.specs.declared.plan.OrderEvent.TheVariants.{Section}
use Rattle.lk_link.specs.Alignments.{IsLeastMultiple}
use Rattle.lk_link.specs.Inside.{placed_section}
use Rattle.lk_link.specs.Parts.{all_parts, part_at}
use Rattle.lk_link.specs.PlanSections.{is_file_backed}
use Rattle.lk_link.specs.WellFormed.{IsInRange}
use Rattle.lk_place.specs.declared.cursors.Cursors.{Cursors}
use Rattle.lk_place.specs.declared.cursors.Offsets.{Offsets}
use Rattle.lk_place.specs.InRegions.{past_region, stands_in}
use Rattle.lk_place.specs.PlacedBefore.{Known, PlacedRecords}
use Rattle.lk_place.specs.Placement.{IsPlaced, behind, carried_out, first_walked, is_walked, known_before, left_at, load_given, moved, own_records}
use Rattle.lk_place.specs.Placement.{section_overflow, section_start, state_at, walk_alignment}
use Rattle.lk_expressions.specs.Records.{Record, nowhere, record_at}
use Rattle.lk_place.specs.Setting.{IsReady, Setting, part_count, part_number, size_at}

-- ---- the parts of a section

-- a walked part starts at the least multiples of its alignment at or above the offsets (in the file where it is backed by
-- it, else where that offset stands), and takes its bytes
pub record IsPlacedAt (backed : Bool) (alignment size : ℕ) (from : Offsets) (r : Record) : Type 0 where
  pub at : IsLeastMultiple alignment from.memory r.mem_offset
  pub in_file : MatchBool backed (IsLeastMultiple alignment from.file r.file_offset) (r.file_offset ≡ from.file)
  pub takes : r.mem_size ≡ size
  pub takes_file : r.file_size ≡ (if backed then size else 0)
  pub aligned : r.alignment ≡ alignment

-- a part that isn't walked has no bytes and its own alignment, and rests where the first walked one starts
pub record IsRestingAt (own : ℕ) (first r : Record) : Type 0 where
  pub at : r.mem_offset ≡ first.mem_offset
  pub in_file : r.file_offset ≡ first.file_offset
  pub takes : r.mem_size ≡ 0
  pub takes_file : r.file_size ≡ 0
  pub aligned : r.alignment ≡ own

-- the offsets behind the first j parts of a section: behind the last walked one of them, else where they begin
abbrev pub reached : Setting → ℕ → List Record → Offsets → ℕ → Offsets
reached setting s records from zero = from
reached setting s records from (suc j) =
    let p = part_number setting.plan.sections s j in
    if is_walked setting s p then behind (record_at records p) else reached setting s records from j

-- ---- a section

-- part p of a section is placed from the offsets on
abbrev pub PlacesPart : Setting → ℕ → ℕ → Offsets → List Record → Type 0
PlacesPart setting s p from records =
    IsPlacedAt (is_file_backed setting.plan s) (walk_alignment setting s p) (size_at setting.sizes p) from (record_at records p)

-- part p of a section rests where the first walked one starts
abbrev pub RestsPart : Setting → ℕ → ℕ → List Record → Type 0
RestsPart setting s p records =
    IsRestingAt (part_at setting.plan.sections p).alignment (record_at records (first_walked setting s)) (record_at records p)

-- the walked parts of a section stand one behind the other, from where they begin on, and the others rest
pub record PlacesSection (setting : Setting) (s : ℕ) (from : Cursors) (records : List Record) (to : Cursors) : Type 0 where
  pub walked : (j : ℕ) → j < part_count setting.plan.sections s
      → is_walked setting s (part_number setting.plan.sections s j) ≡ true
      → PlacesPart setting s (part_number setting.plan.sections s j) (reached setting s records (section_start setting s from) j) records
  pub resting : (j : ℕ) → j < part_count setting.plan.sections s
      → is_walked setting s (part_number setting.plan.sections s j) ≡ false
      → RestsPart setting s (part_number setting.plan.sections s j) records
  pub leaves : to ≡ left_at setting s from (reached setting s records (section_start setting s from) (part_count setting.plan.sections s))

-- all parts of a section are loaded from its load address; where it has none, each from where it stands
abbrev pub AreLoaded : Setting → ℕ → Option ℕ → List Record → Type 0
AreLoaded setting s load records = (j : ℕ) → j < part_count setting.plan.sections s
    → (record_at records (part_number setting.plan.sections s j)).lma_offset
    ≡ unwrap_or load (record_at records (part_number setting.plan.sections s j)).mem_offset

-- a section is placed, and loaded; its parts end below 2^64, and behind them memory isn't past the end of its region
pub record PlacesLoaded (setting : Setting) (standing : PlacedRecords) (s : ℕ) (from : Cursors) (records : List Record) (to : Cursors) : Type 0 where
  pub placed : PlacesSection setting s from records to
  pub fits : section_overflow setting s from ≡ None
  pub load : Option ℕ
  pub given : load_given setting standing s from ≡ Ok load
  pub loaded : AreLoaded setting s load records
  pub not_past : past_region setting (stands_in setting.plan s) to.memory ≡ None

-- an event that places no section leaves the cursors as they are
abbrev pub Places : Setting → PlacedRecords → Option ℕ → Cursors → List Record → Cursors → Type 0
Places setting standing None from records to = to ≡ from
Places setting standing (Some s) from records to = PlacesLoaded setting standing s from records to

-- ---- an event

-- an event is carried out: it moves the cursors, and then places its section, if it has one
pub record CarriesOut (setting : Setting) (known : Known) (e : OrderEvent) (from : Cursors) (records : List Record) (to : Cursors) : Type 0 where
  pub entered : Cursors
  pub moves : moved setting known e from ≡ Ok entered
  pub places : Places setting known.standing (placed_section e) entered records to

-- ---- laws

-- each event before the last state is carried out so, from the state before it to the next
abbrev pub EventsAreCarriedOut : Type 0
EventsAreCarriedOut = (setting : Setting) (states : List Cursors) (records : List Record) → IsReady setting → IsPlaced setting states records
    → (k : ℕ) (e : OrderEvent) → k + 1 < length states → slice_get setting.plan.events k ≡ Some e
    → CarriesOut setting (known_before setting states records k) e (state_at states k) records (state_at states (k + 1))

-- whatever is known, an event gives cursors and its section's records exactly where these carry it out so
abbrev pub GivenIsCarriedOut : Type 0
GivenIsCarriedOut = (setting : Setting) (known : Known) (e : OrderEvent) (from : Cursors) (records : List Record) (to : Cursors) → IsReady setting
    → IsInRange setting.plan e → length records ≡ length (all_parts setting.plan.sections)
    → (carried_out setting known e from ≡ Ok (to, own_records setting records e)) ↔ CarriesOut setting known e from records to

-- a section that one of the first n events places has this part
pub record IsPlacedBefore (setting : Setting) (n p : ℕ) : Type 0 where
  pub k : ℕ
  pub s : ℕ
  pub j : ℕ
  pub early : k < n
  pub places : slice_get setting.plan.events k ≡ Some (Section s)
  pub within : j < part_count setting.plan.sections s
  pub is : p ≡ part_number setting.plan.sections s j

-- a part that no event before the last state places is nowhere
abbrev pub OthersAreNowhere : Type 0
OthersAreNowhere = (setting : Setting) (states : List Cursors) (records : List Record) → IsPlaced setting states records
    → (p : ℕ) → (IsPlacedBefore setting (length states - 1) p → ⊥) → record_at records p ≡ nowhere
