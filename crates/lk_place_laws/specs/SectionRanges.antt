-- What sections span is apart, in the order of their events: in the file whatever the plan, in memory under plain plans. And it ends below 2^64.
use Rattle.std.specs.Prelude.{◌≡◌, ◌≢◌, ◌⊎◌, ℕ, ◌+◌, ◌<◌, ◌≤◌, true, List, Some, length, slice_get}
use Rattle.lk_link.specs.declared.plan.OrderEvent.TheVariants.{Section}
use Rattle.lk_link.specs.PlanSections.{has_memory, is_file_backed}
use Rattle.lk_expressions.specs.Records.{Fits, Record, file_end, has_file_bytes, is_filled, mem_end, record_at}
use Rattle.lk_place.specs.declared.cursors.Cursors.{Cursors}
use Rattle.lk_place_laws.specs.Laws.{IsSoundlySet}
use Rattle.lk_place.specs.Placement.{IsPlaced}
use Rattle.lk_place.specs.Plain.{IsPlain}
use Rattle.lk_place.specs.Segments.{section_records}
use Rattle.lk_place.specs.Setting.{IsReady, Setting}

-- one record ends in the file before the other starts there
abbrev pub AreApartInFile : Record → Record → Type 0
AreApartInFile r q = (file_end r ≤ q.file_offset) ⊎ (file_end q ≤ r.file_offset)

-- so it is in memory
abbrev pub AreApartInMemory : Record → Record → Type 0
AreApartInMemory r q = (mem_end r ≤ q.mem_offset) ⊎ (mem_end q ≤ r.mem_offset)

-- what a section spans
abbrev pub span_of : Setting → List Record → ℕ → Record
span_of setting records s = record_at (section_records setting.plan.sections records) s

-- where no event is refused, any two sections are apart in the file, whatever the plan
abbrev pub FileSectionsAreApart : Type 0
FileSectionsAreApart = (setting : Setting) (states : List Cursors) (records : List Record)
    → IsReady setting → IsPlaced setting states records → length states ≡ length setting.plan.events + 1
    → (s t : ℕ) → s ≢ t → s < length setting.plan.sections → t < length setting.plan.sections
    → AreApartInFile (span_of setting records s) (span_of setting records t)

-- under a plain plan any two sections that have memory are apart there
abbrev pub PlainMemorySectionsAreApart : Type 0
PlainMemorySectionsAreApart = (setting : Setting) (states : List Cursors) (records : List Record)
    → IsSoundlySet setting states records → IsPlain setting.plan setting.output → length states ≡ length setting.plan.events + 1
    → (s t : ℕ) → s ≢ t → s < length setting.plan.sections → t < length setting.plan.sections
    → has_memory setting.plan s ≡ true → has_memory setting.plan t ≡ true
    → AreApartInMemory (span_of setting records s) (span_of setting records t)

-- ---- in order

-- where no event is refused, a section stands in the file behind all that earlier events place, whatever the plan
abbrev pub FileSectionsRise : Type 0
FileSectionsRise = (setting : Setting) (states : List Cursors) (records : List Record)
    → IsReady setting → IsPlaced setting states records → length states ≡ length setting.plan.events + 1
    → (s t k m : ℕ) → k < m → slice_get setting.plan.events k ≡ Some (Section s) → slice_get setting.plan.events m ≡ Some (Section t)
    → file_end (span_of setting records s) ≤ (span_of setting records t).file_offset

-- under a plain plan one that has memory stands there behind all with memory that earlier events place
abbrev pub PlainMemorySectionsRise : Type 0
PlainMemorySectionsRise = (setting : Setting) (states : List Cursors) (records : List Record)
    → IsSoundlySet setting states records → IsPlain setting.plan setting.output → length states ≡ length setting.plan.events + 1
    → (s t k m : ℕ) → k < m → slice_get setting.plan.events k ≡ Some (Section s) → slice_get setting.plan.events m ≡ Some (Section t)
    → has_memory setting.plan s ≡ true → has_memory setting.plan t ≡ true
    → mem_end (span_of setting records s) ≤ (span_of setting records t).mem_offset

-- ---- what each spans

-- where no event is refused, what a section spans ends below 2^64, in the file and in memory
abbrev pub SectionsFit : Type 0
SectionsFit = (setting : Setting) (states : List Cursors) (records : List Record)
    → IsReady setting → IsPlaced setting states records → length states ≡ length setting.plan.events + 1
    → (s : ℕ) → s < length setting.plan.sections → Fits (span_of setting records s)

-- there one that spans bytes of the file takes bytes of the file, and has bytes in memory
abbrev pub FileBytesAreBacked : Type 0
FileBytesAreBacked = (setting : Setting) (states : List Cursors) (records : List Record)
    → IsReady setting → IsPlaced setting states records → length states ≡ length setting.plan.events + 1
    → (s : ℕ) → s < length setting.plan.sections → has_file_bytes (span_of setting records s) ≡ true
    → (is_file_backed setting.plan s ≡ true) × (is_filled (span_of setting records s) ≡ true)
