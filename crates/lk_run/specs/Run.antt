-- What a run does: the one answer that its words and its input define, or the fault that kept it from that.
use Rattle.std.specs.Prelude.{◌≡◌, ℕ, ◌+◌, ◌≤◌, ◌<◌, ◌⊎◌, ◌++◌, true, List, [], codes, length, drop, Option, Some, None, Result, Ok, Err, IfSome}
use Rattle.std.specs.Prelude.{MatchBool, MatchOption}
use Rattle.lk_input.specs.declared.read.error.InputError.{InputError}
use Rattle.lk_input.specs.Reading.{reading_of}
use Rattle.lk_generator.specs.Generated.{generated_link}
use Rattle.lk_check.specs.FirstFault.{first_fault}
use Rattle.lk_explain.specs.Faults.{has_unit}
use Rattle.lk_image.specs.declared.error.ImageError.{ImageError}
use Rattle.lk_image.specs.Image.{image_of}
use Rattle.lk_image.specs.Refusals.{image_refusal}
use Rattle.lk_image.specs.Texts.{error_text}
use Rattle.lk_link.specs.declared.ids.FileId.{FileId}
use Rattle.lk_link.specs.declared.link.LinkInput.{LinkInput}
use Rattle.lk_link.specs.Texts.{link_fault_text}
use Rattle.lk_map.specs.declared.check.MapFault.{MapFault}
use Rattle.lk_map.specs.declared.map_text.SectionLine.{SectionLine}
use Rattle.lk_map.specs.declared.map_text.SegmentLine.{SegmentLine}
use Rattle.lk_map.specs.Checking.{IsVerdict}
use Rattle.lk_map.specs.Written.{TextSays}
use Rattle.lk_reach.specs.declared.units.Unit.{Unit as LinkUnit}
use Rattle.lk_reach.specs.declared.units.Unit.TheVariants.{Sec}
use Rattle.lk_layout.specs.declared.error.LayoutError.{LayoutError}
use Rattle.lk_layout.specs.LayoutRecord.{LayoutRecord}
use Rattle.lk_layout.specs.Defined.{IsDefined}
use Rattle.lk_layout.specs.Machines.{small64_machine}
use Rattle.lk_run.specs.declared.answer.Answer.{Answer}
use Rattle.lk_devices.specs.declared.limit.TheConstants.{LONGEST_INPUT}
use Rattle.lk_run.specs.declared.status.Status.{Status}
use Rattle.lk_run.specs.declared.status.Status.TheVariants.{Done, Refused, Usage, Unreadable, ReadFault, WriteFault, NoMemory}
use Rattle.lk_run.specs.declared.words.Command.{Command}
use Rattle.lk_run.specs.declared.words.Command.TheVariants as commands
use Rattle.lk_devices.specs.Device.{SourceState, SinkState, Appends, AppendsPrefix, Keeps}
use Rattle.lk_run.specs.FaultText.{fault_text_of, input_fault_text_of}
use Rattle.lk_report.specs.Report.{report}
use Rattle.lk_report.specs.Summary.{summary}
use Rattle.lk_run.specs.MapTexts.{good_map_text, map_fault_text, no_map_text}
use Rattle.lk_run.specs.TooLong.{too_long_text}
use Rattle.lk_run.specs.WhyTexts.{IsWay, no_section_text, why_text}
use Rattle.lk_run.specs.Words.{IsCommand, reads, usage}

-- ---- answers

-- the command is done, and tells this
abbrev pub done : List ℕ → Answer
done bytes = record { status = Done; bytes = bytes }

-- what it speaks of is refused, for this reason
abbrev pub refused : List ℕ → Answer
refused bytes = record { status = Refused; bytes = bytes }

-- its source holds nothing that it reads, for this reason
abbrev pub unreadable : List ℕ → Answer
unreadable bytes = record { status = Unreadable; bytes = bytes }

-- the answer to what was read: the one to the link, or why there is no link
abbrev pub IsAnswerToReading : (LinkInput → Answer → Type 0) → Result LinkInput InputError → Answer → Type 0
IsAnswerToReading to_link (Ok link) answer = to_link link answer
IsAnswerToReading to_link (Err e) answer = answer ≡ unreadable (input_fault_text_of e)

-- ---- of a layout

-- what is told of a link's layout, or why it has none
abbrev pub told_of : (LayoutRecord → Answer) → Result LayoutRecord LayoutError → Answer
told_of told (Ok layout) = told layout
told_of told (Err e) = refused (fault_text_of e)

-- the answer to a link: what this tells of it and its defined layout on the small platform, or why it has none
abbrev pub TellsDefined : (LinkInput → LayoutRecord → Answer) → LinkInput → Answer → Type 0
TellsDefined told link answer = (result : Result LayoutRecord LayoutError) × IsDefined small64_machine link result × (answer ≡ told_of (told link) result)

-- what is told of a layout whose image is refused for this reason, if for any
abbrev pub imaged : LinkInput → LayoutRecord → Option ImageError → Answer
imaged link layout None = done (image_of link layout)
imaged link layout (Some e) = refused (error_text e ++ codes "\n")

-- what is told of a link and its layout by their image
abbrev pub image_told : LinkInput → LayoutRecord → Answer
image_told link layout = imaged link layout (image_refusal link layout)

-- ---- of why a section is kept

-- the answer for a section that is there: the path by which it is kept, or that it isn't reached
abbrev pub IsWayAnswer : LinkInput → FileId → ℕ → Answer → Type 0
IsWayAnswer link file index answer = (way : Option (List LinkUnit)) × IsWay link (Sec file index) way × (answer ≡ done (why_text file index way))

-- the answer to a link without a fault: that, or that there is no such section
abbrev pub IsSectionAnswer : LinkInput → FileId → ℕ → Answer → Type 0
IsSectionAnswer link file index answer =
    MatchBool (has_unit link (Sec file index)) (IsWayAnswer link file index answer) (answer ≡ refused (no_section_text file index))

-- the answer to a link: its first fault as a check tells it, if it has one; else that. Nothing is said of its layout
abbrev pub IsWhyAnswer : FileId → ℕ → LinkInput → Answer → Type 0
IsWhyAnswer file index link answer = MatchOption (first_fault link) (IsSectionAnswer link file index answer) (λ fault. answer ≡ refused (link_fault_text fault ++ codes "\n"))

-- ---- of a map

-- what is told of a map by a verdict on its sections and segments
abbrev pub judged : List SectionLine → List SegmentLine → Result (Unit {0}) MapFault → Answer
judged sections segments (Ok _) = done (good_map_text (length sections) (length segments))
judged sections segments (Err fault) = refused (map_fault_text fault)

-- the answer to what a text says: what is told of the map by its verdict, or the line at which the text is no map
abbrev pub IsMapAnswer : Result (List SectionLine × List SegmentLine) ℕ → Answer → Type 0
IsMapAnswer (Ok map) answer = (verdict : Result (Unit {0}) MapFault) × IsVerdict verdict map.0 map.1 × (answer ≡ judged map.0 map.1 verdict)
IsMapAnswer (Err line) answer = answer ≡ unreadable (no_map_text line)

-- ---- of a command

-- the answer of a command to all bytes of its source: of `layout` the report, of `gen` the line of the link that its words give, whatever the
-- bytes, of `why` the way to a section, or that it isn't reached, of `check` the verdict on a map, and of `image` the image; or why there is none
abbrev pub IsAnswerOf : Command → List ℕ → Answer → Type 0
IsAnswerOf (commands.Layout workers) bytes answer = IsAnswerToReading (TellsDefined (λ link layout. done (report link layout))) (reading_of bytes) answer
IsAnswerOf (commands.Gen seed size) bytes answer = TellsDefined (λ link layout. done (summary seed size layout)) (generated_link seed size) answer
IsAnswerOf (commands.Why file index) bytes answer = IsAnswerToReading (IsWhyAnswer file index) (reading_of bytes) answer
IsAnswerOf commands.Check bytes answer = (said : Result (List SectionLine × List SegmentLine) ℕ) × TextSays bytes said × IsMapAnswer said answer
IsAnswerOf (commands.Image workers) bytes answer = IsAnswerToReading (TellsDefined image_told) (reading_of bytes) answer

-- what a source holds: all its bytes, or more than are read
pub data Held : Type 0 where
  Whole : List ℕ → Held
  Longer : Held

-- the source, where it tells what it has left, holds this
abbrev pub Holds : Option (List ℕ) → Held → Type 0
Holds left (Whole bytes) = (length bytes ≤ LONGEST_INPUT) × IfSome left (λ held. held ≡ bytes)
Holds left Longer = IfSome left (λ held. LONGEST_INPUT < length held)

-- the answer of a command to what its source holds; to more than is read each command has the same
abbrev pub IsAnswerTo : Command → Held → Answer → Type 0
IsAnswerTo command (Whole bytes) answer = IsAnswerOf command bytes answer
IsAnswerTo command Longer answer = answer ≡ unreadable too_long_text

-- ---- the devices

-- what a source has left of bytes that were read: nothing of all its bytes; of more, all that is behind the first byte too
-- many
abbrev pub IsReadUp : Held → Option (List ℕ) → Option (List ℕ) → Type 0
IsReadUp (Whole bytes) before after = IfSome before (λ _. after ≡ Some [])
IsReadUp Longer before after = IfSome before (λ held. after ≡ Some (drop (LONGEST_INPUT + 1) held))

-- the sink is as it was
pub record IsKept (before after : SinkState) : Type 0 where
  pub bytes : Keeps before.taken after.taken
  pub faultless : after.faults ≡ before.faults

-- the sink took these bytes and nothing else
pub record Takes (before after : SinkState) (told : List ℕ) : Type 0 where
  pub bytes : Appends before.taken after.taken told
  pub faultless : after.faults ≡ before.faults

-- the sink failed, and took a prefix of them
pub record TakesPrefix (before after : SinkState) (told : List ℕ) : Type 0 where
  pub bytes : AppendsPrefix before.taken after.taken told
  pub faulty : before.faults < after.faults

-- ---- the run

-- the answer to a command that reads: to what the source holds, which is read without a fault
pub record Commanded (command : Command) (from to : SourceState) (answer : Answer) : Type 0 where
  pub held : Held
  pub holds : Holds from.left held
  pub answers : IsAnswerTo command held answer
  pub read : IsReadUp held from.left to.left
  pub faultless : to.faults ≡ from.faults

-- the answer to a command that reads nothing: the source is as it was
pub record Unmoved (command : Command) (from to : SourceState) (answer : Answer) : Type 0 where
  pub untouched : to ≡ from
  pub answers : IsAnswerOf command [] answer

-- the answer to a command
abbrev pub IsAnswered : Command → SourceState → SourceState → Answer → Type 0
IsAnswered command from to answer = MatchBool (reads command) (Commanded command from to answer) (Unmoved command from to answer)

-- the answer to words that are no command: nothing is read
pub record Uncommanded (words : List (List ℕ)) (from to : SourceState) (answer : Answer) : Type 0 where
  pub none : (command : Command) → IsCommand words command → ⊥
  pub untouched : to ≡ from
  pub answers : answer ≡ record { status = Usage; bytes = usage }

-- the answer to the words and the input
abbrev pub IsDefinedFor : List (List ℕ) → SourceState → SourceState → Answer → Type 0
IsDefinedFor words from to answer =
    ((command : Command) × IsCommand words command × IsAnswered command from to answer) ⊎ Uncommanded words from to answer

-- the sink took the bytes of the answer, whose status this is
pub record Finished (words : List (List ℕ)) (from to : SourceState) (before after : SinkState) (status : Status) : Type 0 where
  pub answer : Answer
  pub defined : IsDefinedFor words from to answer
  pub same : status ≡ answer.status
  pub written : Takes before after answer.bytes

-- the sink failed on the bytes of the answer
pub record CutOff (words : List (List ℕ)) (from to : SourceState) (before after : SinkState) : Type 0 where
  pub answer : Answer
  pub defined : IsDefinedFor words from to answer
  pub written : TakesPrefix before after answer.bytes

-- the source failed on a command that reads it, and nothing was written
pub record Unread (words : List (List ℕ)) (from to : SourceState) (before after : SinkState) : Type 0 where
  pub command : Command
  pub asked : IsCommand words command
  pub reading : reads command ≡ true
  pub faulty : from.faults < to.faults
  pub kept : IsKept before after

-- the source had no fault on a command; where the command reads nothing, it is as it was
abbrev pub IsUnfailed : Command → SourceState → SourceState → Type 0
IsUnfailed command from to = MatchBool (reads command) (to.faults ≡ from.faults) (to ≡ from)

-- memory ran out on a command, and nothing was written
pub record OutOfMemory (words : List (List ℕ)) (from to : SourceState) (before after : SinkState) : Type 0 where
  pub command : Command
  pub asked : IsCommand words command
  pub faultless : IsUnfailed command from to
  pub kept : IsKept before after

-- The run theorem: a run that ends has written exactly the bytes of the one answer that its words and its input define,
-- with its status; or a device failed, or memory ran out, and it says so.
abbrev pub IsRun : List (List ℕ) → SourceState → SourceState → SinkState → SinkState → Status → Type 0
IsRun words from to before after ReadFault = Unread words from to before after
IsRun words from to before after WriteFault = CutOff words from to before after
IsRun words from to before after NoMemory = OutOfMemory words from to before after
IsRun words from to before after status = Finished words from to before after status
