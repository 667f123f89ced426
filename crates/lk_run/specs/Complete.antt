-- Laws: what the words and the input define is what a run tells, unless a device fails or memory runs out.
use Rattle.std.specs.Prelude.{◌≡◌, ℕ, ◌≤◌, List, [], length, Option, Ok, Err, None, Some, MatchBool, ◌⊎◌, true}
use Rattle.lk_check.specs.FirstFault.{first_fault}
use Rattle.lk_explain.specs.Faults.{has_unit}
use Rattle.lk_generator.specs.Generated.{generated_link}
use Rattle.lk_input.specs.Reading.{reading_of}
use Rattle.lk_link.specs.declared.ids.FileId.{FileId}
use Rattle.lk_link.specs.declared.link.LinkInput.{LinkInput}
use Rattle.lk_map.specs.declared.map_text.SectionLine.{SectionLine}
use Rattle.lk_map.specs.declared.map_text.SegmentLine.{SegmentLine}
use Rattle.lk_map.specs.Good.{IsGood}
use Rattle.lk_map.specs.Written.{TextSays}
use Rattle.lk_reach.specs.declared.units.Unit.TheVariants.{Sec}
use Rattle.lk_image.specs.Refusals.{image_refusal}
use Rattle.lk_layout.specs.declared.error.LayoutError.{LayoutError}
use Rattle.lk_layout.specs.LayoutRecord.{LayoutRecord}
use Rattle.lk_layout.specs.Defined.{IsDefined}
use Rattle.lk_layout.specs.Machines.{small64_machine}
use Rattle.lk_run.specs.declared.answer.Answer.{Answer}
use Rattle.lk_devices.specs.declared.limit.TheConstants.{LONGEST_INPUT}
use Rattle.lk_run.specs.declared.status.Status.{Status}
use Rattle.lk_run.specs.declared.status.Status.TheVariants.{Done, Usage, NoMemory}
use Rattle.lk_run.specs.declared.words.Command.{Command}
use Rattle.lk_run.specs.declared.words.Command.TheVariants as commands
use Rattle.lk_devices.specs.Device.{SourceState, SinkState}
use Rattle.lk_run.specs.Run.{Held, Holds, IsAnswerOf, IsAnswerTo, IsRun, Takes}
use Rattle.lk_run.specs.Words.{IsCommand, command_of, reads, usage}

-- neither device failed
pub record IsFaultless (from to : SourceState) (before after : SinkState) : Type 0 where
  pub source : to.faults ≡ from.faults
  pub sink : after.faults ≡ before.faults

-- the run told the answer
pub record Tells (before after : SinkState) (status : Status) (answer : Answer) : Type 0 where
  pub same : status ≡ answer.status
  pub written : Takes before after answer.bytes

-- the answer to these bytes where a source holds them: of a command that reads, to what is held of them; of one that doesn't, whatever
-- they are; and to words that are no command
abbrev pub IsAnswerOver : List ℕ → Option Command → Answer → Type 0
IsAnswerOver bytes None answer = answer ≡ record { status = Usage; bytes = usage }
IsAnswerOver bytes (Some command) answer =
    MatchBool (reads command) ((held : Held) × Holds (Some bytes) held × IsAnswerTo command held answer) (IsAnswerOf command [] answer)

-- the answer that words and bytes define
abbrev pub IsAnswerFor : List (List ℕ) → List ℕ → Answer → Type 0
IsAnswerFor words bytes answer = IsAnswerOver bytes (command_of words) answer

-- a run of the words over a source that holds the bytes, in which no device failed, told the answer, unless memory ran out
abbrev pub EachRunTells : List (List ℕ) → List ℕ → Answer → Type 0
EachRunTells words bytes answer = (from to : SourceState) (before after : SinkState) (status : Status) → from.left ≡ Some bytes
    → IsRun words from to before after status → IsFaultless from to before after → Tells before after status answer ⊎ (status ≡ NoMemory)

-- the answer that words and bytes define, of whatever command, is told by each such run
abbrev pub RunsTellTheAnswer : Type 0
RunsTellTheAnswer = (words : List (List ℕ)) (bytes : List ℕ) (answer : Answer) → IsAnswerFor words bytes answer → EachRunTells words bytes answer

-- every words and bytes define an answer, which each such run tells
abbrev pub RunsTellOneAnswer : Type 0
RunsTellOneAnswer = (words : List (List ℕ)) (bytes : List ℕ) → (answer : Answer) × IsAnswerFor words bytes answer × EachRunTells words bytes answer

-- the bytes describe a link that meets no refusal
pub record DescribesLayout (bytes : List ℕ) : Type 0 where
  pub fits : length bytes ≤ LONGEST_INPUT
  pub link : LinkInput
  pub described : reading_of bytes ≡ Ok link
  pub unrefused : (e : LayoutError) → IsDefined small64_machine link (Err e) → ⊥

-- a run of `layout N` over such bytes, in which no device failed, laid the link out, unless memory ran out
abbrev pub RunsAreComplete : Type 0
RunsAreComplete =
    (words : List (List ℕ)) (workers : ℕ) (bytes : List ℕ) (from to : SourceState) (before after : SinkState) (status : Status)
    → IsCommand words (commands.Layout workers) → from.left ≡ Some bytes → DescribesLayout bytes
    → IsRun words from to before after status → IsFaultless from to before after → (status ≡ Done) ⊎ (status ≡ NoMemory)

-- a run of `image N` over such bytes, whose layout's image isn't refused, in which no device failed, wrote it, unless memory ran out
abbrev pub ImageRunsAreComplete : Type 0
ImageRunsAreComplete =
    (words : List (List ℕ)) (workers : ℕ) (bytes : List ℕ) (from to : SourceState) (before after : SinkState) (status : Status)
    → IsCommand words (commands.Image workers) → from.left ≡ Some bytes → (described : DescribesLayout bytes)
    → ((layout : LayoutRecord) → IsDefined small64_machine described.link (Ok layout) → image_refusal described.link layout ≡ None)
    → IsRun words from to before after status → IsFaultless from to before after → (status ≡ Done) ⊎ (status ≡ NoMemory)

-- a run of `gen SEED SIZE`, in which the sink didn't fail, laid out the link that these give, if that meets no refusal, unless memory ran out
abbrev pub GeneratedRunsAreComplete : Type 0
GeneratedRunsAreComplete =
    (words : List (List ℕ)) (seed size : ℕ) (from to : SourceState) (before after : SinkState) (status : Status)
    → IsCommand words (commands.Gen seed size) → ((e : LayoutError) → IsDefined small64_machine (generated_link seed size) (Err e) → ⊥)
    → IsRun words from to before after status → after.faults ≡ before.faults → (status ≡ Done) ⊎ (status ≡ NoMemory)

-- the bytes describe a link without a fault, and this section is in it
pub record DescribesSection (bytes : List ℕ) (file : FileId) (index : ℕ) : Type 0 where
  pub fits : length bytes ≤ LONGEST_INPUT
  pub link : LinkInput
  pub described : reading_of bytes ≡ Ok link
  pub unfaulted : first_fault link ≡ None
  pub there : has_unit link (Sec file index) ≡ true

-- a run of `why G F I` over such bytes, in which no device failed, told why the section is kept or that it isn't, unless memory ran out
abbrev pub WhyRunsAreComplete : Type 0
WhyRunsAreComplete =
    (words : List (List ℕ)) (file : FileId) (index : ℕ) (bytes : List ℕ) (from to : SourceState) (before after : SinkState) (status : Status)
    → IsCommand words (commands.Why file index) → from.left ≡ Some bytes → DescribesSection bytes file index
    → IsRun words from to before after status → IsFaultless from to before after → (status ≡ Done) ⊎ (status ≡ NoMemory)

-- the bytes are a map, and it is good
pub record AreGoodMap (bytes : List ℕ) : Type 0 where
  pub fits : length bytes ≤ LONGEST_INPUT
  pub sections : List SectionLine
  pub segments : List SegmentLine
  pub says : TextSays bytes (Ok (sections, segments))
  pub good : IsGood sections segments

-- a run of `check` over such bytes, in which no device failed, found no fault, unless memory ran out
abbrev pub CheckRunsAreComplete : Type 0
CheckRunsAreComplete =
    (words : List (List ℕ)) (bytes : List ℕ) (from to : SourceState) (before after : SinkState) (status : Status)
    → IsCommand words commands.Check → from.left ≡ Some bytes → AreGoodMap bytes
    → IsRun words from to before after status → IsFaultless from to before after → (status ≡ Done) ⊎ (status ≡ NoMemory)
