-- What the record of a segment holds.
use Rattle.std.specs.Prelude.{◌≡◌, ℕ, ◌+◌, ◌^◌, ◌<◌, ◌≤◌, Bool, true, List, length}
use Rattle.lk_expressions.specs.Records.{Fits, Record, file_end, has_file_bytes, mem_end}
use Rattle.lk_place.specs.declared.cursors.Cursors.{Cursors}
use Rattle.lk_place_laws.specs.Distance.{AreEquallyFar}
use Rattle.lk_place_laws.specs.Laws.{IsSoundlySet}
use Rattle.lk_place.specs.Placement.{IsPlaced}
use Rattle.lk_place.specs.Plain.{IsPlain, PlacesInLoad}
use Rattle.lk_place_laws.specs.SectionRanges.{span_of}
use Rattle.lk_place.specs.Segments.{section_records, segment_record}
use Rattle.lk_place.specs.Setting.{IsReady, Setting}

-- the ranges of one record hold those of another, in memory and in the file
pub record HoldsRecord (outer r : Record) : Type 0 where
  pub memory_from : outer.mem_offset ≤ r.mem_offset
  pub memory_to : mem_end r ≤ mem_end outer
  pub file_from : outer.file_offset ≤ r.file_offset
  pub file_to : file_end r ≤ file_end outer

-- what segment i spans, where these sections are emitted and the stack has so many bytes
abbrev pub segment_span : Setting → List Record → ℕ → (ℕ → Bool) → ℕ → Record
segment_span setting records stack emitted i = segment_record setting.plan stack (section_records setting.plan.sections records) emitted i

-- where no event is refused, and the stack has 64 bits, what a segment spans ends below 2^64, in the file and in memory
abbrev pub SegmentsFit : Type 0
SegmentsFit = (setting : Setting) (states : List Cursors) (records : List Record)
    → IsReady setting → IsPlaced setting states records → length states ≡ length setting.plan.events + 1
    → (stack : ℕ) → stack < 2 ^ 64 → (emitted : ℕ → Bool) (i : ℕ) → Fits (segment_span setting records stack emitted i)

-- under a plain plan a load segment holds each section inside that has bytes in the file, and starts as far from it in memory as in the
-- file, whichever sections are emitted
abbrev pub PlainSegmentsHoldSections : Type 0
PlainSegmentsHoldSections = (setting : Setting) (states : List Cursors) (records : List Record)
    → IsSoundlySet setting states records → IsPlain setting.plan setting.output → length states ≡ length setting.plan.events + 1
    → (stack : ℕ) (emitted : ℕ → Bool) (i s k : ℕ) → PlacesInLoad setting.plan i s k → has_file_bytes (span_of setting records s) ≡ true
    → HoldsRecord (segment_span setting records stack emitted i) (span_of setting records s)
    × AreEquallyFar (segment_span setting records stack emitted i) (span_of setting records s)
