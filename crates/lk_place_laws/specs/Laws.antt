-- Laws of placement: what it keeps apart in memory, and what it keeps in step.
use Rattle.std.specs.Prelude.{◌≡◌, ◌≢◌, ℕ, ◌+◌, ◌%◌, ◌<◌, ◌==◌, ◌↔◌, true, List, [], Some, length, slice_get}
use Rattle.std.specs.List.{list_any}
use Rattle.lk_link.specs.declared.options.OutputKind.{OutputKind}
use Rattle.lk_link.specs.declared.options.OutputKind.TheVariants.{Partial}
use Rattle.lk_link.specs.declared.plan.OrderEvent.{OrderEvent}
use Rattle.lk_link.specs.declared.plan.Plan.{Plan}
use Rattle.lk_link.specs.Alignments.{is_alignment}
use Rattle.lk_link.specs.Inside.{PlacesInside, sections_inside}
use Rattle.lk_link.specs.PlanSections.{has_memory, is_file_backed}
use Rattle.lk_link.specs.Target.{IsLawful}
use Rattle.lk_link.specs.WellFormed.{IsAboutPlace, IsEventOrder}
use Rattle.lk_place.specs.declared.cursors.Cursors.{Cursors}
use Rattle.lk_place.specs.Alignments.{place_alignment, section_alignment}
use Rattle.lk_place.specs.Placement.{IsPlaced}
use Rattle.lk_place.specs.Plain.{IsLoadSegment, IsPlain, PlacesInLoad}
use Rattle.lk_place_laws.specs.Plans.{IsUnmoved}
use Rattle.lk_place.specs.Ranges.{HasPart}
use Rattle.lk_place_laws.specs.MemoryRanges.{MemoryIsDisjoint}
use Rattle.lk_expressions.specs.Records.{Record, record_at}
use Rattle.lk_place.specs.Segments.{alignment_inside, section_records}
use Rattle.lk_place.specs.Setting.{IsReady, Setting}

-- a placement of a plan with events in order, good sections and a page, on a lawful machine
pub record IsSoundlySet (setting : Setting) (states : List Cursors) (records : List Record) : Type 0 where
  pub ready : IsReady setting
  pub page : is_alignment setting.plan.page ≡ true
  pub lawful : IsLawful setting.target
  pub placed : IsPlaced setting states records

-- ---- apart

-- under a plan in which nothing moves the location, no two parts of sections that take addresses share one (regions, given addresses
-- and moves of the location may break this)
abbrev pub MemoryRangesAreDisjoint : Type 0
MemoryRangesAreDisjoint = (setting : Setting) (states : List Cursors) (records : List Record)
    → IsSoundlySet setting states records → IsUnmoved setting.plan setting.output → MemoryIsDisjoint setting.plan records

-- under a plain plan no two share one
abbrev pub PlainMemoryIsDisjoint : Type 0
PlainMemoryIsDisjoint = (setting : Setting) (states : List Cursors) (records : List Record)
    → IsSoundlySet setting states records → IsPlain setting.plan setting.output → MemoryIsDisjoint setting.plan records

-- ---- in step

-- under a plain plan a part with bytes in the file, inside a load segment, starts at the same place in memory and in the file,
-- modulo the segment's place alignment
abbrev pub PlainMemoryIsCongruent : Type 0
PlainMemoryIsCongruent = (setting : Setting) (states : List Cursors) (records : List Record)
    → IsSoundlySet setting states records → IsPlain setting.plan setting.output
    → (i s k p : ℕ) → PlacesInLoad setting.plan i s k → is_file_backed setting.plan s ≡ true → HasPart setting.plan s p
    → (record_at records p).mem_offset % place_alignment setting i ≡ (record_at records p).file_offset % place_alignment setting i

-- a section that is placed has its greatest alignment, and what the records say of the sections inside a segment is the segment's
-- place alignment
pub record KeepAlignments (setting : Setting) (records : List Record) : Type 0 where
  pub section : (s : ℕ) → s < length setting.plan.sections
      → (record_at (section_records setting.plan.sections records) s).alignment ≡ section_alignment setting s
  pub segment : (i : ℕ) → alignment_inside setting.plan (section_records setting.plan.sections records) i ≡ place_alignment setting i

-- a whole placement keeps the alignments
abbrev pub RecordsKeepAlignments : Type 0
RecordsKeepAlignments = (setting : Setting) (states : List Cursors) (records : List Record)
    → IsReady setting → IsPlaced setting states records → length states ≡ length setting.plan.events + 1 → KeepAlignments setting records

-- ---- inside segments

-- a section is one of those inside a segment exactly where an event places it while the segment is open
abbrev pub InsideIsPlaced : Type 0
InsideIsPlaced = (plan : Plan) (i s : ℕ)
    → (list_any (λ t. t == s) (sections_inside plan.events i) ≡ true) ↔ ((k : ℕ) × PlacesInside plan.events i s k)

-- ---- plain plans

-- a plan with one load segment is plain, if its events are in order and place sections alone, and its sections have memory and
-- take bytes of the file
abbrev pub OneLoadSegmentIsPlain : Type 0
OneLoadSegmentIsPlain = (plan : Plan) (output : OutputKind) → IsEventOrder plan
    → output ≢ Partial → plan.regions ≡ [] → ((k : ℕ) (e : OrderEvent) → slice_get plan.events k ≡ Some e → IsAboutPlace e)
    → ((i j : ℕ) → IsLoadSegment plan i → IsLoadSegment plan j → i ≡ j)
    → ((s : ℕ) → s < length plan.sections → (has_memory plan s ≡ true) × (is_file_backed plan s ≡ true))
    → IsPlain plan output
