-- A run that laid out a link has told a report that is a map.
use Rattle.std.proofs.Common.{◌≡◌, ℕ, List, Option, None, Some, Result, Ok, Err, ap, inl, inr, refl, subst, sym, ◌∙◌}
use Rattle.std.specs.Prelude.{IfOk}
use Rattle.lk_input.specs.Reading.{reading_of}
use Rattle.lk_layout.specs.Defined.{IsDefined}
use Rattle.lk_layout.specs.LayoutRecord.{LayoutRecord}
use Rattle.lk_layout.specs.Machines.{small64_machine}
use Rattle.lk_layout.specs.declared.error.LayoutError.{LayoutError}
use Rattle.lk_report.specs.Report.{report}
use Rattle.lk_link.specs.declared.link.LinkInput.{LinkInput}
use Rattle.lk_devices.specs.Device.{SinkState, SourceState}
use Rattle.lk_run.specs.MappedRun.{IsMappedRun, TellsMap}
use Rattle.lk_run.specs.Run.{Held, Holds, Longer, Takes, Whole, done, told_of}
use Rattle.lk_run.specs.Steps.{GivesInput, IsFailure, IsMadeFor, IsMadeTold, IsMappedAnswer, IsMappedCommand, IsMappedResult, IsToldBy, held_by}
use Rattle.lk_run.specs.Words.{command_of}
use Rattle.lk_run.specs.declared.answer.Answer.{Answer}
use Rattle.lk_run.specs.declared.inputs.CommandInput.{CommandInput}
use Rattle.lk_run.specs.declared.status.Status.{Status}
use Rattle.lk_run.specs.declared.status.Status.TheVariants.{Done, NoMemory, ReadFault, Refused, Unreadable, Usage, WriteFault}
use Rattle.lk_run.specs.declared.words.Command.{Command}
use Rattle.lk_run.specs.declared.words.Command.TheVariants as commands
use Rattle.lk_run.proofs.Commands.{reads_command}
use Rattle.lk_run.proofs.SoundRuns.{done_reading}

-- ---- a command

told_layout : (from : SourceState) (before after : SinkState) (bytes : List ℕ) (link : LinkInput) (result : Result LayoutRecord LayoutError) (answer : Answer)
    → Holds from.left (Whole bytes) → reading_of bytes ≡ Ok link → IsDefined small64_machine link result → answer ≡ told_of (λ layout. done (report link layout)) result → IsMappedResult link result
    → Done ≡ answer.status → Takes before after answer.bytes → TellsMap from before after
told_layout from before after bytes link (Ok layout) answer holds described defined is mapped status written =
    record {
      bytes = bytes;
      holds = holds;
      link = link;
      described = described;
      layout = layout;
      defined = defined;
      mapped = mapped;
      written = subst (Takes before after) (ap (λ (a : Answer). a.bytes) is) written;
    }
told_layout from before after bytes link (Err e) answer holds described defined is mapped status written =
    let refused : Done ≡ Refused = status ∙ ap (λ (a : Answer). a.status) is in
    absurd (cc)

told_held : (from : SourceState) (before after : SinkState) (workers : ℕ) (held : Held) (answer : Answer) → Holds from.left held
    → IsMadeFor (commands.Layout workers) held answer → Done ≡ answer.status → Takes before after answer.bytes → TellsMap from before after
told_held from before after workers (Whole bytes) answer holds is status written =
    let found = done_reading IsMappedAnswer (reading_of bytes) answer is status in
    told_layout from before after bytes found.0 found.2.0 answer holds found.1 found.2.1 found.2.2 found.2.3 status written
told_held from before after workers Longer answer holds is status written =
    let unreadable : Done ≡ Unreadable = status ∙ ap (λ (a : Answer). a.status) is in
    absurd (cc)

told_made : (command : Command) (input : CommandInput) (answer : Answer) (from to : SourceState) (before after : SinkState) (status : Status)
    → GivesInput command (Ok input) from to → IsMadeFor command (held_by input) answer → IsToldBy status answer before after → IsMappedCommand command from before after status
told_made (commands.Layout n) input answer from to before after status given is told = λ workers same done.
    elim told [
      | inl whole ↦ told_held from before after n (held_by input) answer (given.2 refl) is (sym done ∙ whole.0) whole.1
      | inr cut ↦ absurd (let fault : Done ≡ WriteFault = sym done ∙ cut.0 in cc)
    ]
told_made (commands.Gen seed size) input answer from to before after status given is told = λ workers same done. absurd (cc)
told_made (commands.Why file index) input answer from to before after status given is told = λ workers same done. absurd (cc)
told_made commands.Check input answer from to before after status given is told = λ workers same done. absurd (cc)
told_made (commands.Image n) input answer from to before after status given is told = λ workers same done. absurd (cc)

-- what was made for it, and told
pub mapped_command : {E : Type 0} (command : Command) (input : CommandInput) (made : Result Answer E) (from to : SourceState) (before after : SinkState) (status : Status)
    → GivesInput command (Ok input) from to → IfOk made (IsMadeFor command (held_by input)) → IsMadeTold made status before after
    → IsMappedCommand command from before after status
mapped_command command input (Ok answer) from to before after status given is told = told_made command input answer from to before after status given is told
mapped_command command input (Err e) from to before after status given is told = λ workers same done. absurd (let none : Done ≡ NoMemory = sym done ∙ told.0 in cc)

-- one that has no answer isn't done
pub failed_command : (command : Command) (from to : SourceState) (before after : SinkState) (status : Status) → IsFailure command status from to
    → IsMappedCommand command from before after status
failed_command command from to before after Done why = absurd why
failed_command command from to before after Refused why = absurd why
failed_command command from to before after Usage why = absurd why
failed_command command from to before after Unreadable why = absurd why
failed_command command from to before after WriteFault why = absurd why
failed_command command from to before after ReadFault why = λ workers same done. absurd (cc)
failed_command command from to before after NoMemory why = λ workers same done. absurd (cc)

-- ---- words

some_same : (c d : Command) → ◌≡◌ {A = Option Command} (Some c) (Some d) → c ≡ d
some_same c d h = cc

-- words that are a command
pub mapped_run : (words : List (List ℕ)) (command : Command) (from : SourceState) (before after : SinkState) (status : Status) → command_of words ≡ Some command
    → IsMappedCommand command from before after status → IsMappedRun words from before after status
mapped_run words command from before after status is mapped = λ workers asked done.
    mapped workers (some_same command (commands.Layout workers) (sym is ∙ reads_command words (commands.Layout workers) asked)) done

-- words that are no command
pub mapped_usage : (words : List (List ℕ)) (from : SourceState) (before after : SinkState) (status : Status) → command_of words ≡ None → IsMappedRun words from before after status
mapped_usage words from before after status none = λ workers asked done.
    let some : None ≡ Some (commands.Layout workers) = sym none ∙ reads_command words (commands.Layout workers) asked in
    absurd (cc)
