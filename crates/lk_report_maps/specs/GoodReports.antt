-- The reports of plain layouts are good maps.
use Rattle.std.specs.Prelude.{◌≡◌, ℕ, ◌^◌, ◌<◌, true, None, Ok, length}
use Rattle.std.specs.List.{Contains}
use Rattle.lk_link.specs.declared.link.LinkInput.{LinkInput}
use Rattle.lk_link.specs.PlanSections.{is_allocated, section_at}
use Rattle.lk_expressions.specs.Records.{has_file_bytes, record_at}
use Rattle.lk_place.specs.declared.segments.SegmentLayout.{SegmentLayout}
use Rattle.lk_place.specs.Plain.{IsPlain, PlacesInLoad}
use Rattle.lk_layout.specs.Defined.{IsDefined}
use Rattle.lk_layout.specs.LayoutRecord.{LayoutRecord}
use Rattle.lk_layout.specs.Machines.{IsLawfulMachine, Machine}
use Rattle.lk_map.specs.Good.{IsGood}
use Rattle.lk_report_maps.specs.Laws.{map_sections, map_segments}

-- section s stands in a load segment that is told
pub record StandsInTold (link : LinkInput) (layout : LayoutRecord) (s : ℕ) : Type 0 where
  pub k : ℕ
  pub segment : SegmentLayout
  pub told : Contains layout.segment_layouts segment
  pub places : PlacesInLoad link.plan segment.id s k

-- no section is secondary, and each that is allocated and has bytes in the file stands in a load segment that is told
pub record IsCovered (link : LinkInput) (layout : LayoutRecord) : Type 0 where
  pub primary : (s : ℕ) → s < length link.plan.sections → (section_at link.plan.sections s).primary ≡ None
  pub held : (s : ℕ) → s < length link.plan.sections → is_allocated link.plan s ≡ true → has_file_bytes (record_at layout.section_layouts s) ≡ true → StandsInTold link layout s

-- what the report of a defined layout tells of sections and segments is good, under a plain plan whose sections are covered so, where the stack
-- has 64 bits
abbrev pub PlainReportsAreGood : Type 0
PlainReportsAreGood = (machine : Machine) (link : LinkInput) (layout : LayoutRecord) → IsLawfulMachine machine → IsDefined machine link (Ok layout)
    → IsPlain link.plan link.options.output → IsCovered link layout → link.options.stack < 2 ^ 64 → IsGood (map_sections link layout) (map_segments link layout)
