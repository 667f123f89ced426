-- What a run has written that laid out a link: a report that is a map, whatever the sizes.
use Rattle.std.specs.Prelude.{◌≡◌, ℕ, List, Ok}
use Rattle.lk_input.specs.Reading.{reading_of}
use Rattle.lk_link.specs.declared.link.LinkInput.{LinkInput}
use Rattle.lk_layout.specs.LayoutRecord.{LayoutRecord}
use Rattle.lk_layout.specs.Defined.{IsDefined}
use Rattle.lk_layout.specs.Machines.{small64_machine}
use Rattle.lk_report.specs.Report.{report}
use Rattle.lk_report_maps.specs.MappedReports.{IsMapped}
use Rattle.lk_run.specs.declared.status.Status.{Status}
use Rattle.lk_run.specs.declared.status.Status.TheVariants.{Done}
use Rattle.lk_run.specs.declared.words.Command.TheVariants as commands
use Rattle.lk_devices.specs.Device.{SourceState, SinkState}
use Rattle.lk_run.specs.Run.{Holds, Takes, Whole}
use Rattle.lk_run.specs.Words.{IsCommand}

-- the source held bytes that describe a link; and the sink took the report of the link's defined layout, which is the map of what it says, is
-- read as the layout's own sections and segments, and is good under a plain plan whose sections are covered
pub record TellsMap (from : SourceState) (before after : SinkState) : Type 0 where
  pub bytes : List ℕ
  pub holds : Holds from.left (Whole bytes)
  pub link : LinkInput
  pub described : reading_of bytes ≡ Ok link
  pub layout : LayoutRecord
  pub defined : IsDefined small64_machine link (Ok layout)
  pub mapped : IsMapped link layout
  pub written : Takes before after (report link layout)

-- a run of `layout N` that ends with the status of what is done has told such a report
abbrev pub IsMappedRun : List (List ℕ) → SourceState → SinkState → SinkState → Status → Type 0
IsMappedRun words from before after status = (workers : ℕ) → IsCommand words (commands.Layout workers) → status ≡ Done → TellsMap from before after
