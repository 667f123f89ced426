-- Laws: a report is a map, and says its layout's own sections and segments.
use Rattle.std.specs.Prelude.{◌≡◌, ℕ, ◌+◌, List, map, Ok, length, slice_index}
use Rattle.std.specs.List.{enumerate_from}
use Rattle.lk_map.specs.declared.map_text.SectionLine.{SectionLine}
use Rattle.lk_map.specs.declared.map_text.SegmentLine.{SegmentLine}
use Rattle.lk_map.specs.Written.{IsMap, TextSays}
use Rattle.lk_link.specs.declared.link.LinkInput.{LinkInput}
use Rattle.lk_expressions.specs.Records.{Record, record_at}
use Rattle.lk_layout.specs.Defined.{IsDefined}
use Rattle.lk_layout.specs.LayoutRecord.{LayoutRecord}
use Rattle.lk_layout.specs.Machines.{IsLawfulMachine, Machine}
use Rattle.lk_report.specs.Report.{report}
use Rattle.lk_report_maps.specs.ToldLines.{all_parts_say, told_lines, AreShort}

-- a report is the map of what it says, line by line
abbrev pub ReportsAreMaps : Type 0
ReportsAreMaps = (link : LinkInput) (layout : LayoutRecord) → AreShort (told_lines link layout) → IsMap (report link layout) (told_lines link layout)

-- ---- sections and segments

-- a layout has a record, an index and attributes for each output section, as every defined one has
pub record IsWhole (link : LinkInput) (layout : LayoutRecord) : Type 0 where
  pub records : length layout.section_layouts ≡ length link.plan.sections
  pub indexes : length layout.output_section_indexes ≡ length link.plan.sections
  pub attributes : length layout.section_attributes ≡ length link.plan.sections

-- what a map has of the section with this number: its record, in the line behind the first one and those of the sections before it
abbrev pub map_section : LayoutRecord → ℕ → SectionLine
map_section layout s =
    let r = record_at layout.section_layouts s in
    record {
      line = s + 2;
      mem_offset = r.mem_offset;
      mem_size = r.mem_size;
      file_offset = r.file_offset;
      file_size = r.file_size;
      attrs = slice_index layout.section_attributes s;
    }

-- of all sections
abbrev pub map_sections : LinkInput → LayoutRecord → List SectionLine
map_sections link layout = map (λ q. map_section layout q.0) (enumerate_from 0 link.plan.sections)

-- what it has of a segment in this line
abbrev pub map_segment : ℕ → Record → SegmentLine
map_segment n r = record { line = n; mem_offset = r.mem_offset; mem_size = r.mem_size; file_offset = r.file_offset; file_size = r.file_size }

-- the line of the first segment: behind the first line, and those of sections and parts
abbrev pub first_segment_line : LinkInput → LayoutRecord → ℕ
first_segment_line link layout = length link.plan.sections + length (all_parts_say link.plan.sections layout.section_part_layouts) + 2

-- of all segments that are told, in their order
abbrev pub map_segments : LinkInput → LayoutRecord → List SegmentLine
map_segments link layout = map (λ q. map_segment (first_segment_line link layout + q.0) q.1.sizes) (enumerate_from 0 layout.segment_layouts)

-- the report of a whole layout says the layout's own sections and segments, each in its line
abbrev pub ReportsAreRead : Type 0
ReportsAreRead = (link : LinkInput) (layout : LayoutRecord) → AreShort (told_lines link layout) → IsWhole link layout
    → TextSays (report link layout) (Ok (map_sections link layout, map_segments link layout))

-- ---- defined layouts

-- every defined layout is whole
abbrev pub DefinedLayoutsAreWhole : Type 0
DefinedLayoutsAreWhole = (machine : Machine) (link : LinkInput) (layout : LayoutRecord) → IsLawfulMachine machine → IsDefined machine link (Ok layout) → IsWhole link layout

-- so its report says the layout's own sections and segments
abbrev pub DefinedReportsAreRead : Type 0
DefinedReportsAreRead = (machine : Machine) (link : LinkInput) (layout : LayoutRecord) → IsLawfulMachine machine → IsDefined machine link (Ok layout)
    → AreShort (told_lines link layout) → TextSays (report link layout) (Ok (map_sections link layout, map_segments link layout))
