-- What a run that laid out a link has told: the report of a sound layout of the link that its source held, or the line of a sound layout
-- of the link that its words give. What one has read that found no fault of a map: a good map. And what one has written as an image: the
-- bytes of all that stands in the file, each at its place, and zeros.
use Rattle.std.specs.Prelude.{◌≡◌, ℕ, List, Ok, length}
use Rattle.lk_generator.specs.Generated.{generated_link}
use Rattle.lk_input.specs.Reading.{reading_of}
use Rattle.lk_image.specs.Image.{image_of, stretches}
use Rattle.lk_image.specs.Places.{image_length}
use Rattle.lk_image.specs.Stretches.{AreApart, IsMadeOf}
use Rattle.lk_layout.specs.LayoutRecord.{LayoutRecord}
use Rattle.lk_layout.specs.Defined.{IsDefined}
use Rattle.lk_layout.specs.Machines.{small64_machine}
use Rattle.lk_layout.specs.Made.{Made}
use Rattle.lk_link.specs.declared.link.LinkInput.{LinkInput}
use Rattle.lk_soundness.specs.Sound.{IsSound}
use Rattle.lk_map.specs.Good.{IsGood}
use Rattle.lk_map.specs.Lines.{Line}
use Rattle.lk_map.specs.MapText.{sections_of, segments_of}
use Rattle.lk_map.specs.Written.{IsMap}
use Rattle.lk_run.specs.declared.status.Status.{Status}
use Rattle.lk_run.specs.declared.status.Status.TheVariants.{Done}
use Rattle.lk_run.specs.declared.words.Command.TheVariants as commands
use Rattle.lk_devices.specs.Device.{SourceState, SinkState}
use Rattle.lk_report.specs.Report.{report}
use Rattle.lk_run.specs.MapTexts.{good_map_text}
use Rattle.lk_run.specs.Run.{Whole, Holds, IsRun, Takes}
use Rattle.lk_report.specs.Summary.{summary}
use Rattle.lk_run.specs.Words.{IsCommand}

-- the defined layout of a link on the small platform, and it is sound
pub record IsSoundLayoutOf (link : LinkInput) (layout : LayoutRecord) : Type 0 where
  pub defined : IsDefined small64_machine link (Ok layout)
  pub made : Made
  pub of : made.link ≡ link
  pub machine : made.machine ≡ small64_machine
  pub sound : IsSound made layout

-- the source held bytes that describe a link; the link's defined layout is sound; and the sink took its report
pub record TellsSoundLayout (from : SourceState) (before after : SinkState) : Type 0 where
  pub bytes : List ℕ
  pub holds : Holds from.left (Whole bytes)
  pub link : LinkInput
  pub described : reading_of bytes ≡ Ok link
  pub layout : LayoutRecord
  pub sound : IsSoundLayoutOf link layout
  pub written : Takes before after (report link layout)

-- the defined layout of the link that a seed and a number of objects give is sound; and the sink took its line
pub record TellsSoundSummary (seed size : ℕ) (before after : SinkState) : Type 0 where
  pub layout : LayoutRecord
  pub sound : IsSoundLayoutOf (generated_link seed size) layout
  pub written : Takes before after (summary seed size layout)

-- the source held the map of some lines, whose sections and segments are good; and the sink took how many these are
pub record TellsGoodMap (from : SourceState) (before after : SinkState) : Type 0 where
  pub bytes : List ℕ
  pub holds : Holds from.left (Whole bytes)
  pub lines : List Line
  pub map : IsMap bytes lines
  pub good : IsGood (sections_of 1 lines) (segments_of 1 lines)
  pub written : Takes before after (good_map_text (length (sections_of 1 lines)) (length (segments_of 1 lines)))

-- the source held bytes that describe a link; its defined layout is sound; and the sink took the layout's image, in which the bytes of each
-- live section and of all that is merged stand at their places, which are apart, and every other byte is zero
pub record TellsImage (from : SourceState) (before after : SinkState) : Type 0 where
  pub bytes : List ℕ
  pub holds : Holds from.left (Whole bytes)
  pub link : LinkInput
  pub described : reading_of bytes ≡ Ok link
  pub layout : LayoutRecord
  pub sound : IsSoundLayoutOf link layout
  pub apart : AreApart (stretches link layout)
  pub written : Takes before after (image_of link layout)
  pub stands : IsMadeOf (image_length layout) (stretches link layout) (image_of link layout)

-- a run that ends with the status of what is done has told a sound layout, or read a good map, or written the image of a sound layout
pub record IsSoundRun (words : List (List ℕ)) (from : SourceState) (before after : SinkState) (status : Status) : Type 0 where
  pub read : (workers : ℕ) → IsCommand words (commands.Layout workers) → status ≡ Done → TellsSoundLayout from before after
  pub generated : (seed size : ℕ) → IsCommand words (commands.Gen seed size) → status ≡ Done → TellsSoundSummary seed size before after
  pub checked : IsCommand words commands.Check → status ≡ Done → TellsGoodMap from before after
  pub imaged : (workers : ℕ) → IsCommand words (commands.Image workers) → status ≡ Done → TellsImage from before after

-- each run that is one by the run theorem is so
abbrev pub RunsAreSound : Type 0
RunsAreSound = (words : List (List ℕ)) (from to : SourceState) (before after : SinkState) (status : Status)
    → IsRun words from to before after status → IsSoundRun words from before after status
