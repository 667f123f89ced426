-- What holds of the report of a link and a layout in hand, whose numbers are kept in 64 bits or fewer.
use Rattle.std.specs.Prelude.{◌^◌, ◌<◌, Ok}
use Rattle.lk_link.specs.declared.link.LinkInput.{LinkInput}
use Rattle.lk_layout.specs.LayoutRecord.{LayoutRecord}
use Rattle.lk_map.specs.Good.{IsGood}
use Rattle.lk_map.specs.Written.{IsMap, TextSays}
use Rattle.lk_place.specs.Plain.{IsPlain}
use Rattle.lk_report.specs.Report.{report}
use Rattle.lk_report_maps.specs.GoodReports.{IsCovered}
use Rattle.lk_report_maps.specs.Laws.{map_sections, map_segments}
use Rattle.lk_report_maps.specs.ToldLines.{AreShort, told_lines}

-- each number that the report tells is below 2^64, and so is the stack
pub record IsShort (link : LinkInput) (layout : LayoutRecord) : Type 0 where
  pub lines : AreShort (told_lines link layout)
  pub stack : link.options.stack < 2 ^ 64

-- the report is the map of what it says, line by line, and says the layout's own sections and segments, each in its line; and these are good
-- under a plain plan, where no section is secondary and each that is allocated and has bytes in the file stands in a load segment that is told
pub record IsMapped (link : LinkInput) (layout : LayoutRecord) : Type 0 where
  pub map : IsMap (report link layout) (told_lines link layout)
  pub read : TextSays (report link layout) (Ok (map_sections link layout, map_segments link layout))
  pub good : IsPlain link.plan link.options.output → IsCovered link layout → IsGood (map_sections link layout) (map_segments link layout)
