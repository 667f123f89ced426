-- The steps of a run make the run that is promised.
use Rattle.std.proofs.Common.{◌≡◌, ◌⊎◌, inl, inr, ℕ, Bool, true, false, List, [], ◌++◌, Option, Some, None, Result, Ok, Err, sym, subst, ap, ◌∙◌, refl, true≢false}
use Rattle.std.specs.Prelude.{IfOk, MatchBool, MatchOption, codes}
use Rattle.lk_input.specs.declared.read.error.InputError.{InputError}
use Rattle.lk_input.specs.Reading.{reading_of}
use Rattle.lk_generator.specs.Generated.{generated_link}
use Rattle.lk_check.specs.FirstFault.{first_fault}
use Rattle.lk_explain.specs.Faults.{has_unit}
use Rattle.lk_image.specs.declared.error.ImageError.{ImageError}
use Rattle.lk_image.specs.Refusals.{image_refusal}
use Rattle.lk_link.specs.declared.fault.LinkFault.{LinkFault}
use Rattle.lk_link.specs.declared.ids.FileId.{FileId}
use Rattle.lk_link.specs.declared.link.LinkInput.{LinkInput}
use Rattle.lk_link.specs.Texts.{link_fault_text}
use Rattle.lk_map.specs.declared.check.MapFault.{MapFault}
use Rattle.lk_map.specs.declared.map_text.SectionLine.{SectionLine}
use Rattle.lk_map.specs.declared.map_text.SegmentLine.{SegmentLine}
use Rattle.lk_map.specs.Written.{TextSays}
use Rattle.lk_reach.specs.declared.units.Unit.TheVariants.{Sec}
use Rattle.lk_layout.specs.declared.error.LayoutError.{LayoutError}
use Rattle.lk_layout.specs.LayoutRecord.{LayoutRecord}
use Rattle.lk_report.specs.Report.{report}
use Rattle.lk_report.specs.Summary.{summary}
use Rattle.lk_run.specs.declared.answer.Answer.{Answer}
use Rattle.lk_run.specs.declared.inputs.CommandInput.{CommandInput}
use Rattle.lk_run.specs.declared.inputs.CommandInput.TheVariants.{TooLong}
use Rattle.lk_run.specs.declared.status.Status.{Status}
use Rattle.lk_run.specs.declared.status.Status.TheVariants.{Done, Refused, Usage, Unreadable, ReadFault, WriteFault, NoMemory}
use Rattle.lk_run.specs.declared.words.Command.{Command}
use Rattle.lk_run.specs.declared.words.Command.TheVariants as commands
use Rattle.lk_devices.specs.Device.{SourceState, SinkState}
use Rattle.lk_run.specs.Run.{Held, Whole, Longer, Holds, IsReadUp, IsKept, IsAnswerOf, IsAnswerTo, IsAnswerToReading, IsMapAnswer, IsSectionAnswer, IsWayAnswer, IsWhyAnswer, done, judged, refused, IsAnswered, IsDefinedFor, Commanded, Unmoved, Uncommanded, IsRun, TellsDefined, image_told, imaged, told_of}
use Rattle.lk_run.specs.Steps.{GivesInput, IsCommandRun, IsFailure, IsMadeFor, IsMadeOf, IsMadeTold, IsMappedAnswer, IsToldBy, IsUsageRun, held_by}
use Rattle.lk_run.specs.WhyTexts.{no_section_text}
use Rattle.lk_run.specs.Words.{IsCommand, command_of, reads, usage}
use Rattle.lk_run.proofs.Commands.{command_is_read, no_command, one_command}

-- ---- what an answer's status may be

abbrev pub IsTold : Status → Type 0
IsTold status = (status ≡ Done) ⊎ ((status ≡ Refused) ⊎ (status ≡ Unreadable))

told_result : (told : LayoutRecord → Answer) (result : Result LayoutRecord LayoutError) → ((layout : LayoutRecord) → IsTold (told layout).status) → IsTold (told_of told result).status
told_result told (Ok layout) each = each layout
told_result told (Err e) each = inr (inl refl)

-- what tells of each layout so tells of a link so
told_defined : (told : LinkInput → LayoutRecord → Answer) (link : LinkInput) (answer : Answer) → ((layout : LayoutRecord) → IsTold (told link layout).status)
    → TellsDefined told link answer → IsTold answer.status
told_defined told link answer each is = subst (λ (a : Answer). IsTold a.status) (sym is.2) (told_result (told link) is.0 each)

told_imaged : (link : LinkInput) (layout : LayoutRecord) (refusal : Option ImageError) → IsTold (imaged link layout refusal).status
told_imaged link layout None = inl refl
told_imaged link layout (Some e) = inr (inl refl)

told_reading : (to_link : LinkInput → Answer → Type 0) (reading : Result LinkInput InputError) (answer : Answer)
    → ((link : LinkInput) → to_link link answer → IsTold answer.status) → IsAnswerToReading to_link reading answer → IsTold answer.status
told_reading to_link (Ok link) answer told is = told link is
told_reading to_link (Err e) answer told is = inr (inr (ap (λ (a : Answer). a.status) is))

told_refused : (text : List ℕ) (answer : Answer) → answer ≡ refused text → IsTold answer.status
told_refused text answer is = inr (inl (ap (λ (a : Answer). a.status) is))

told_section : (link : LinkInput) (file : FileId) (index : ℕ) (is_there : Bool) (answer : Answer)
    → MatchBool is_there (IsWayAnswer link file index answer) (answer ≡ refused (no_section_text file index)) → IsTold answer.status
told_section link file index true answer is = inl (ap (λ (a : Answer). a.status) is.2)
told_section link file index false answer is = told_refused (no_section_text file index) answer is

told_why : (file : FileId) (index : ℕ) (link : LinkInput) (found : Option LinkFault) (answer : Answer)
    → MatchOption found (IsSectionAnswer link file index answer) (λ fault. answer ≡ refused (link_fault_text fault ++ codes "\n")) → IsTold answer.status
told_why file index link None answer is = told_section link file index (has_unit link (Sec file index)) answer is
told_why file index link (Some fault) answer is = told_refused (link_fault_text fault ++ codes "\n") answer is

told_judged : (sections : List SectionLine) (segments : List SegmentLine) (verdict : Result (Unit {0}) MapFault) → IsTold (judged sections segments verdict).status
told_judged sections segments (Ok u) = inl refl
told_judged sections segments (Err fault) = inr (inl refl)

told_map : (said : Result (List SectionLine × List SegmentLine) ℕ) (answer : Answer) → IsMapAnswer said answer → IsTold answer.status
told_map (Ok map) answer is = subst (λ (a : Answer). IsTold a.status) (sym is.2) (told_judged map.0 map.1 is.0)
told_map (Err line) answer is = inr (inr (ap (λ (a : Answer). a.status) is))

-- a case for each command
told_command : (command : Command) (bytes : List ℕ) (answer : Answer) → IsAnswerOf command bytes answer → IsTold answer.status
told_command (commands.Layout workers) bytes answer is =
    let told : LinkInput → LayoutRecord → Answer = λ link layout. done (report link layout) in
    told_reading (TellsDefined told) (reading_of bytes) answer (λ link. told_defined told link answer (λ layout. inl refl)) is
told_command (commands.Gen seed size) bytes answer is =
    told_defined (λ link layout. done (summary seed size layout)) (generated_link seed size) answer (λ layout. inl refl) is
told_command (commands.Why file index) bytes answer is =
    told_reading (IsWhyAnswer file index) (reading_of bytes) answer (λ link. told_why file index link (first_fault link) answer) is
told_command commands.Check bytes answer is = told_map is.0 answer is.2
told_command (commands.Image workers) bytes answer is =
    told_reading (TellsDefined image_told) (reading_of bytes) answer (λ link. told_defined image_told link answer (λ layout. told_imaged link layout (image_refusal link layout))) is

told_held : (command : Command) (held : Held) (answer : Answer) → IsAnswerTo command held answer → IsTold answer.status
told_held command (Whole bytes) answer is = told_command command bytes answer is
told_held command Longer answer is = inr (inr (ap (λ (a : Answer). a.status) is))

told_either : (does_read : Bool) (command : Command) (from to : SourceState) (answer : Answer)
    → MatchBool does_read (Commanded command from to answer) (Unmoved command from to answer) → IsTold answer.status
told_either true command from to answer is = told_held command is.held answer is.answers
told_either false command from to answer is = told_command command [] answer is.answers

told_answered : (command : Command) (from to : SourceState) (answer : Answer) → IsAnswered command from to answer → IsTold answer.status
told_answered command from to answer is = told_either (reads command) command from to answer is

-- ---- what a command is given

-- one that reads, by a source that was read up
pub given_read : (command : Command) (input : CommandInput) (from to : SourceState) → reads command ≡ true → Holds from.left (held_by input)
    → IsReadUp (held_by input) from.left to.left → to.faults ≡ from.faults → GivesInput command (Ok input) from to
given_read command input from to does holds up faultless = (
  λ answer is.
      let given : Commanded command from to answer = record { held = held_by input; holds = holds; answers = is; read = up; faultless = faultless } in
      subst (λ b. MatchBool b (Commanded command from to answer) (Unmoved command from to answer)) (sym does) given,
  subst (λ b. MatchBool b (to.faults ≡ from.faults) (to ≡ from)) (sym does) faultless,
  λ _. holds,
)

-- why one that reads is given nothing
pub given_none : (command : Command) (from to : SourceState) → reads command ≡ true → to.faults ≡ from.faults → IsFailure command NoMemory from to
given_none command from to does faultless = subst (λ b. MatchBool b (to.faults ≡ from.faults) (to ≡ from)) (sym does) faultless

-- one that reads nothing
pub given_unread : (command : Command) (input : CommandInput) (from : SourceState) → reads command ≡ false → held_by input ≡ Whole []
    → GivesInput command (Ok input) from from
given_unread command input from does_not none = (
  λ answer is.
      let given : Unmoved command from from answer = record { untouched = refl; answers = subst (λ h. IsAnswerTo command h answer) none is } in
      subst (λ b. MatchBool b (Commanded command from from answer) (Unmoved command from from answer)) (sym does_not) given,
  subst (λ b. MatchBool b (from.faults ≡ from.faults) (from ≡ from)) (sym does_not) refl,
  λ does. absurd (true≢false (sym does ∙ does_not)),
)

-- an answer to an input that is too long is made for it
pub too_long_answers : {E : Type 0} (made : Result Answer E) (command : Command) (input : CommandInput) → input ≡ TooLong
    → IfOk made (λ answer. (any : Command) → IsAnswerTo any Longer answer) → IfOk made (IsMadeFor command (held_by input))
too_long_answers (Ok answer) command input is given = subst (λ i. IsMadeFor command (held_by i) answer) (sym is) (given command)
too_long_answers (Err e) command input is given = given

-- what was made for what a text says answers the text
pub check_answers : {E : Type 0} (made : Result Answer E) (text : List ℕ) (said : Result (List SectionLine × List SegmentLine) ℕ) → TextSays text said
    → IfOk made (IsMapAnswer said) → IfOk made (IsAnswerOf commands.Check text)
check_answers (Ok answer) text said says is = (said, says, is)
check_answers (Err e) text said says is = is

-- what was made for a command answers it
made_reading : (reading : Result LinkInput InputError) (answer : Answer) → IsAnswerToReading IsMappedAnswer reading answer
    → IsAnswerToReading (TellsDefined (λ link layout. done (report link layout))) reading answer
made_reading (Ok link) answer is = (is.0, is.1, is.2)
made_reading (Err e) answer is = is

made_of : (command : Command) (bytes : List ℕ) (answer : Answer) → IsMadeOf command bytes answer → IsAnswerOf command bytes answer
made_of (commands.Layout workers) bytes answer is = made_reading (reading_of bytes) answer is
made_of (commands.Gen seed size) bytes answer is = is
made_of (commands.Why file index) bytes answer is = is
made_of commands.Check bytes answer is = is
made_of (commands.Image workers) bytes answer is = is

made_for : (command : Command) (held : Held) (answer : Answer) → IsMadeFor command held answer → IsAnswerTo command held answer
made_for command (Whole bytes) answer is = made_of command bytes answer is
made_for command Longer answer is = is

-- what was made of it, and told
pub made_run : {E : Type 0} (command : Command) (input : CommandInput) (made : Result Answer E) (from to : SourceState) (before after : SinkState) (status : Status)
    → GivesInput command (Ok input) from to → IfOk made (IsMadeFor command (held_by input)) → IsMadeTold made status before after
    → IsCommandRun command from to before after status
made_run command input (Ok answer) from to before after status given is told = inl (answer, given.0 answer (made_for command (held_by input) answer is), told)
made_run command input (Err e) from to before after status given is told =
    inr (subst (λ s. IsFailure command s from to) (sym told.0) given.1, told.1)

-- ---- words

defined : (words : List (List ℕ)) (command : Command) (from to : SourceState) (answer : Answer) → command_of words ≡ Some command → IsAnswered command from to answer
    → IsDefinedFor words from to answer
defined words command from to answer is given = inl (command, command_is_read words command is, given)

-- the answer of words that are a command
pub answered : (words : List (List ℕ)) (command : Command) (from to : SourceState) (answer : Answer) → IsCommand words command → IsDefinedFor words from to answer
    → IsAnswered command from to answer
answered words command from to answer asked (inl told) = subst (λ c. IsAnswered c from to answer) (one_command words told.0 command told.1 asked) told.2
answered words command from to answer asked (inr unasked) = absurd (unasked.none command asked)

failed_run : (words : List (List ℕ)) (command : Command) (from to : SourceState) (before after : SinkState) (status : Status)
    → command_of words ≡ Some command → IsFailure command status from to → IsKept before after → IsRun words from to before after status
failed_run words command from to before after ReadFault is why kept =
    record { command = command; asked = command_is_read words command is; reading = why.0; faulty = why.1; kept = kept }
failed_run words command from to before after NoMemory is why kept =
    record { command = command; asked = command_is_read words command is; faultless = why; kept = kept }
failed_run words command from to before after Done is why kept = absurd why
failed_run words command from to before after Refused is why kept = absurd why
failed_run words command from to before after Usage is why kept = absurd why
failed_run words command from to before after Unreadable is why kept = absurd why
failed_run words command from to before after WriteFault is why kept = absurd why

-- an answer that was told
told_run : (words : List (List ℕ)) (from to : SourceState) (before after : SinkState) (status : Status) (answer : Answer) → IsDefinedFor words from to answer
    → IsTold answer.status → IsToldBy status answer before after → IsRun words from to before after status
told_run words from to before after status answer is_defined is_told told =
    let run : Status → Type 0 = λ s. IsRun words from to before after s in
    elim told [
      | inr cut ↦ subst run (sym cut.0) (record { answer = answer; defined = is_defined; written = cut.1 })
      | inl whole ↦ elim is_told [
        | inl done ↦ subst run (sym (whole.0 ∙ done)) (record { answer = answer; defined = is_defined; same = sym done; written = whole.1 })
        | inr other ↦ elim other [
          | inl is_refused ↦ subst run (sym (whole.0 ∙ is_refused)) (record { answer = answer; defined = is_defined; same = sym is_refused; written = whole.1 })
          | inr unreadable ↦ subst run (sym (whole.0 ∙ unreadable)) (record { answer = answer; defined = is_defined; same = sym unreadable; written = whole.1 })
        ]
      ]
    ]

-- a command that was run
pub command_run : (words : List (List ℕ)) (command : Command) (from to : SourceState) (before after : SinkState) (status : Status) → command_of words ≡ Some command
    → IsCommandRun command from to before after status → IsRun words from to before after status
command_run words command from to before after status is (inr failed) = failed_run words command from to before after status is failed.0 failed.1
command_run words command from to before after status is (inl told) =
    told_run words from to before after status told.0 (defined words command from to told.0 is told.1) (told_answered command from to told.0 told.1) told.2

-- words that are no command
pub usage_run : (words : List (List ℕ)) (from : SourceState) (before after : SinkState) (status : Status) → command_of words ≡ None → IsUsageRun before after status
    → IsRun words from from before after status
usage_run words from before after status none told =
    let answer : Answer = record { status = Usage; bytes = usage } in
    let given : Uncommanded words from from answer = record { none = λ command. no_command words command none; untouched = refl; answers = refl } in
    let is_defined : IsDefinedFor words from from answer = inr given in
    let run : Status → Type 0 = λ s. IsRun words from from before after s in
    elim told [
      | inl whole ↦ subst run (sym whole.0) (record { answer = answer; defined = is_defined; same = refl; written = whole.1 })
      | inr cut ↦ subst run (sym cut.0) (record { answer = answer; defined = is_defined; written = cut.1 })
    ]
