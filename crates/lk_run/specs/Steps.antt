-- What the steps of a run do, one after the other; only the private functions of the run cite it.
use Rattle.std.specs.Prelude.{◌≡◌, ℕ, ◌<◌, List, length, slice_index, true, Result, Ok, Err, ◌⊎◌}
use Rattle.lk_input.specs.declared.read.error.InputError.{InputError}
use Rattle.lk_input.specs.Reading.{reading_of}
use Rattle.lk_layout.specs.declared.error.LayoutError.{LayoutError}
use Rattle.lk_layout.specs.Defined.{IsDefined}
use Rattle.lk_layout.specs.LayoutRecord.{LayoutRecord}
use Rattle.lk_layout.specs.Machines.{small64_machine}
use Rattle.lk_link.specs.declared.link.LinkInput.{LinkInput}
use Rattle.lk_report.specs.Report.{report}
use Rattle.lk_report_maps.specs.MappedReports.{IsMapped}
use Rattle.lk_run.specs.declared.answer.Answer.{Answer}
use Rattle.lk_run.specs.declared.inputs.CommandInput.{CommandInput}
use Rattle.lk_run.specs.declared.inputs.CommandInput.TheVariants as given
use Rattle.lk_run.specs.declared.inputs.Reading.{Reading}
use Rattle.lk_run.specs.declared.inputs.Reading.TheVariants.{Link, Fault}
use Rattle.lk_run.specs.declared.status.Status.{Status}
use Rattle.lk_run.specs.declared.status.Status.TheVariants.{Done, Refused, Usage, Unreadable, ReadFault, WriteFault, NoMemory}
use Rattle.lk_run.specs.declared.words.Command.{Command}
use Rattle.lk_run.specs.declared.words.Command.TheVariants as commands
use Rattle.lk_devices.specs.Device.{SourceState, SinkState}
use Rattle.lk_run.specs.MappedRun.{TellsMap}
use Rattle.lk_run.specs.Run.{Held, Holds, Whole, Longer, IsAnswerOf, IsAnswerTo, IsAnswerToReading, IsAnswered, IsKept, IsUnfailed, Takes, TakesPrefix, done, told_of}
use Rattle.lk_run.specs.Words.{IsCommand, reads, usage}

-- words can ask for the command
abbrev pub CanBeAsked : Command → Type 0
CanBeAsked command = (words : List (List ℕ)) × IsCommand words command

-- why a command has no answer: it reads, and the source failed; or memory ran out
abbrev pub IsFailure : Command → Status → SourceState → SourceState → Type 0
IsFailure command ReadFault from to = (reads command ≡ true) × (from.faults < to.faults)
IsFailure command NoMemory from to = IsUnfailed command from to
IsFailure command Done from to = ⊥
IsFailure command Refused from to = ⊥
IsFailure command Usage from to = ⊥
IsFailure command Unreadable from to = ⊥
IsFailure command WriteFault from to = ⊥

-- what the source was found to hold
abbrev pub held_by : CommandInput → Held
held_by (given.Bytes bytes) = Whole bytes.items
held_by given.TooLong = Longer

-- what a command was given to answer: whatever is its answer to this is the answer of the command, the source didn't fail, and held this
-- where the command reads; or the status that tells why it was given nothing
abbrev pub GivesInput : Command → Result CommandInput Status → SourceState → SourceState → Type 0
GivesInput command (Ok input) from to =
    ((answer : Answer) → IsAnswerTo command (held_by input) answer → IsAnswered command from to answer) × IsUnfailed command from to
    × (reads command ≡ true → Holds from.left (held_by input))
GivesInput command (Err status) from to = IsFailure command status from to

-- what was read as this gives this reading: the link, or an answer that tells why there is none
abbrev pub IsReadAs : Result LinkInput InputError → Reading → Type 0
IsReadAs read (Link link) = read ≡ Ok link
IsReadAs read (Fault answer) = IsAnswerToReading (λ link answer. ⊥) read answer

-- what was found of a link: where it is a layout, its report is a map
abbrev pub IsMappedResult : LinkInput → Result LayoutRecord LayoutError → Type 0
IsMappedResult link (Ok layout) = IsMapped link layout
IsMappedResult link (Err e) = Unit {0}

-- the answer to a link that is laid out, and the report that it tells is a map
abbrev pub IsMappedAnswer : LinkInput → Answer → Type 0
IsMappedAnswer link answer =
    (result : Result LayoutRecord LayoutError) × IsDefined small64_machine link result × (answer ≡ told_of (λ layout. done (report link layout)) result)
    × IsMappedResult link result

-- what was made for a command of all bytes of its source: its answer, which of `layout N` is such a one
abbrev pub IsMadeOf : Command → List ℕ → Answer → Type 0
IsMadeOf (commands.Layout workers) bytes answer = IsAnswerToReading IsMappedAnswer (reading_of bytes) answer
IsMadeOf (commands.Gen seed size) bytes answer = IsAnswerOf (commands.Gen seed size) bytes answer
IsMadeOf (commands.Why file index) bytes answer = IsAnswerOf (commands.Why file index) bytes answer
IsMadeOf commands.Check bytes answer = IsAnswerOf commands.Check bytes answer
IsMadeOf (commands.Image workers) bytes answer = IsAnswerOf (commands.Image workers) bytes answer

-- the same of what its source holds
abbrev pub IsMadeFor : Command → Held → Answer → Type 0
IsMadeFor command (Whole bytes) answer = IsMadeOf command bytes answer
IsMadeFor command Longer answer = IsAnswerTo command Longer answer

-- the answer was told: its bytes are written, or the sink failed on them
abbrev pub IsToldBy : Status → Answer → SinkState → SinkState → Type 0
IsToldBy status answer before after =
    ((status ≡ answer.status) × Takes before after answer.bytes) ⊎ ((status ≡ WriteFault) × TakesPrefix before after answer.bytes)

-- what was made was told; or it couldn't be made for want of memory, and nothing was written
abbrev pub IsMadeTold : {E : Type 0} → Result Answer E → Status → SinkState → SinkState → Type 0
IsMadeTold (Ok answer) status before after = IsToldBy status answer before after
IsMadeTold (Err e) status before after = (status ≡ NoMemory) × IsKept before after

-- a command was run: its answer was told, or it has none and nothing was written
abbrev pub IsCommandRun : Command → SourceState → SourceState → SinkState → SinkState → Status → Type 0
IsCommandRun command from to before after status =
    ((answer : Answer) × IsAnswered command from to answer × IsToldBy status answer before after)
    ⊎ (IsFailure command status from to × IsKept before after)

-- one that is `layout N` and done has told a report that is a map
abbrev pub IsMappedCommand : Command → SourceState → SinkState → SinkState → Status → Type 0
IsMappedCommand command from before after status = (workers : ℕ) → command ≡ commands.Layout workers → status ≡ Done → TellsMap from before after

-- the usage was told
abbrev pub IsUsageRun : SinkState → SinkState → Status → Type 0
IsUsageRun before after status = IsToldBy status (record { status = Usage; bytes = usage }) before after

-- a plus or a zero stands in front of more
abbrev pub IsPadded : List ℕ → Type 0
IsPadded word = (1 < length word) × ((slice_index word 0 ≡ 48) ⊎ (slice_index word 0 ≡ 43))
