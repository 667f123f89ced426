-- A run that laid out a link has told a sound layout, one that found no fault of a map has read a good one, and one that wrote an image wrote
-- that of a sound layout.
use Rattle.std.proofs.Common.{◌≡◌, ℕ, List, Option, Some, None, Result, Ok, Err, refl, subst, ap, ◌∙◌}
use Rattle.lk_generator.specs.Generated.{generated_link}
use Rattle.lk_input.specs.declared.read.error.InputError.{InputError}
use Rattle.lk_input.specs.Reading.{reading_of}
use Rattle.lk_image.specs.declared.error.ImageError.{ImageError}
use Rattle.lk_image.specs.Laid.{IsLayoutOf}
use Rattle.lk_image.specs.Laws.{ImagesAreMade}
use Rattle.lk_image.specs.Refusals.{image_refusal}
use Rattle.lk_link.specs.declared.link.LinkInput.{LinkInput}
use Rattle.lk_layout.specs.Machines.{IsLawfulMachine, small64_machine}
use Rattle.lk_layout.specs.declared.error.LayoutError.{LayoutError}
use Rattle.lk_layout.specs.LayoutRecord.{LayoutRecord}
use Rattle.lk_layout.specs.Made.{made_of}
use Rattle.lk_layout.specs.Defined.{IsDefined}
use Rattle.lk_report.specs.Report.{report}
use Rattle.lk_report.specs.Summary.{summary}
use Rattle.lk_soundness.specs.Laws.{DefinedLayoutsAreSound}
use Rattle.lk_map.specs.declared.check.MapFault.{MapFault}
use Rattle.lk_map.specs.declared.map_text.SectionLine.{SectionLine}
use Rattle.lk_map.specs.declared.map_text.SegmentLine.{SegmentLine}
use Rattle.lk_map.specs.Checking.{IsVerdict}
use Rattle.lk_map.specs.Lines.{Line}
use Rattle.lk_map.specs.MapText.{sections_of, segments_of}
use Rattle.lk_map.specs.Written.{IsMap, TextSays}
use Rattle.lk_map.proofs.Goodness.{judged_tells}
use Rattle.lk_run.specs.declared.answer.Answer.{Answer}
use Rattle.lk_run.specs.declared.status.Status.{Status}
use Rattle.lk_run.specs.declared.status.Status.TheVariants.{Done, Refused, Unreadable}
use Rattle.lk_run.specs.declared.words.Command.TheVariants as commands
use Rattle.lk_devices.specs.Device.{SourceState, SinkState}
use Rattle.lk_run.specs.Run.{Held, Whole, Longer, Holds, Takes, IsAnswerTo, IsAnswerToReading, Finished, IsMapAnswer, IsRun, TellsDefined, done, image_told, imaged, judged, told_of}
use Rattle.lk_run.specs.SoundRun.{TellsGoodMap, TellsImage, TellsSoundLayout, TellsSoundSummary, IsSoundLayoutOf, IsSoundRun}
use Rattle.lk_run.specs.Words.{IsCommand}
use Rattle.lk_run.proofs.RunLaws.{answered}

-- what the laws say of the small machine: a defined layout of it is sound
abbrev SmallLayoutsAreSound : Type 0
SmallLayoutsAreSound = DefinedLayoutsAreSound × IsLawfulMachine small64_machine

sound_layout : SmallLayoutsAreSound → (link : LinkInput) (layout : LayoutRecord) → IsDefined small64_machine link (Ok layout) → IsSoundLayoutOf link layout
sound_layout law link layout defined =
    let sound = law.0 small64_machine link layout law.1 defined in
    record { defined = defined; made = made_of small64_machine link sound.0 sound.1; of = refl; machine = refl; sound = sound.2 }

-- an answer with the status of a layout is its report
told_layout : SmallLayoutsAreSound → (from : SourceState) (before after : SinkState) (bytes : List ℕ) (link : LinkInput) (result : Result LayoutRecord LayoutError) (answer : Answer)
    → Holds from.left (Whole bytes) → reading_of bytes ≡ Ok link → IsDefined small64_machine link result
    → answer ≡ told_of (λ layout. done (report link layout)) result → Done ≡ answer.status → Takes before after answer.bytes → TellsSoundLayout from before after
told_layout law from before after bytes link (Ok layout) answer holds described defined is status written =
    record {
      bytes = bytes;
      holds = holds;
      link = link;
      described = described;
      layout = layout;
      sound = sound_layout law link layout defined;
      written = subst (Takes before after) (ap (λ (a : Answer). a.bytes) is) written;
    }
told_layout law from before after bytes link (Err e) answer holds described defined is status written =
    let refused : Done ≡ Refused = status ∙ ap (λ (a : Answer). a.status) is in
    absurd (cc)

-- an answer with that status to what was read is the answer to a link
pub done_reading : (to_link : LinkInput → Answer → Type 0) (reading : Result LinkInput InputError) (answer : Answer) → IsAnswerToReading to_link reading answer → Done ≡ answer.status
    → (link : LinkInput) × (reading ≡ Ok link) × to_link link answer
done_reading to_link (Ok link) answer is status = (link, refl, is)
done_reading to_link (Err e) answer is status =
    let unreadable : Done ≡ Unreadable = status ∙ ap (λ (a : Answer). a.status) is in
    absurd (cc)

told_held : SmallLayoutsAreSound → (from : SourceState) (before after : SinkState) (workers : ℕ) (held : Held) (answer : Answer)
    → Holds from.left held → IsAnswerTo (commands.Layout workers) held answer → Done ≡ answer.status → Takes before after answer.bytes
    → TellsSoundLayout from before after
told_held law from before after workers (Whole bytes) answer holds is status written =
    let found = done_reading (TellsDefined (λ link layout. done (report link layout))) (reading_of bytes) answer is status in
    told_layout law from before after bytes found.0 found.2.0 answer holds found.1 found.2.1 found.2.2 status written
told_held law from before after workers Longer answer holds is status written =
    let unreadable : Done ≡ Unreadable = status ∙ ap (λ (a : Answer). a.status) is in
    absurd (cc)

-- an answer to a seed and a number of objects, with the status of a layout, is its line
told_summary : SmallLayoutsAreSound → (seed size : ℕ) (before after : SinkState) (result : Result LayoutRecord LayoutError) (answer : Answer)
    → IsDefined small64_machine (generated_link seed size) result → answer ≡ told_of (λ layout. done (summary seed size layout)) result → Done ≡ answer.status
    → Takes before after answer.bytes → TellsSoundSummary seed size before after
told_summary law seed size before after (Ok layout) answer defined is status written =
    record {
      layout = layout;
      sound = sound_layout law (generated_link seed size) layout defined;
      written = subst (Takes before after) (ap (λ (a : Answer). a.bytes) is) written;
    }
told_summary law seed size before after (Err e) answer defined is status written =
    let refused : Done ≡ Refused = status ∙ ap (λ (a : Answer). a.status) is in
    absurd (cc)

read_run : SmallLayoutsAreSound → (words : List (List ℕ)) (workers : ℕ) (from to : SourceState) (before after : SinkState)
    → IsCommand words (commands.Layout workers) → Finished words from to before after Done → TellsSoundLayout from before after
read_run law words workers from to before after asked run =
    let given = answered words (commands.Layout workers) from to run.answer asked run.defined in
    told_held law from before after workers given.held run.answer given.holds given.answers run.same run.written

gen_run : SmallLayoutsAreSound → (words : List (List ℕ)) (seed size : ℕ) (from to : SourceState) (before after : SinkState)
    → IsCommand words (commands.Gen seed size) → Finished words from to before after Done → TellsSoundSummary seed size before after
gen_run law words seed size from to before after asked run =
    let given = answered words (commands.Gen seed size) from to run.answer asked run.defined in
    told_summary law seed size before after given.answers.0 run.answer given.answers.1 given.answers.2 run.same run.written

-- ---- images

-- what is done is not refused
unrefused : (link : LinkInput) (layout : LayoutRecord) (refusal : Option ImageError) (answer : Answer) → answer ≡ imaged link layout refusal → Done ≡ answer.status → refusal ≡ None
unrefused link layout None answer is status = refl
unrefused link layout (Some e) answer is status =
    let refused : Done ≡ Refused = status ∙ ap (λ (a : Answer). a.status) is in
    absurd (cc)

told_image : SmallLayoutsAreSound → ImagesAreMade → (from : SourceState) (before after : SinkState) (bytes : List ℕ) (link : LinkInput) (result : Result LayoutRecord LayoutError) (answer : Answer)
    → Holds from.left (Whole bytes) → reading_of bytes ≡ Ok link → IsDefined small64_machine link result → answer ≡ told_of (image_told link) result → Done ≡ answer.status → Takes before after answer.bytes
    → TellsImage from before after
told_image law images from before after bytes link (Ok layout) answer holds described defined is status written =
    let none : image_refusal link layout ≡ None = unrefused link layout (image_refusal link layout) answer is status in
    let laid : IsLayoutOf link layout = record { machine = small64_machine; lawful = law.1; defined = defined } in
    let made = images link layout laid none in
    record {
      bytes = bytes;
      holds = holds;
      link = link;
      described = described;
      layout = layout;
      sound = sound_layout law link layout defined;
      apart = made.0;
      written = subst (Takes before after) (ap (λ (a : Answer). a.bytes) (is ∙ ap (imaged link layout) none)) written;
      stands = made.1;
    }
told_image law images from before after bytes link (Err e) answer holds described defined is status written =
    let refused : Done ≡ Refused = status ∙ ap (λ (a : Answer). a.status) is in
    absurd (cc)

imaged_held : SmallLayoutsAreSound → ImagesAreMade → (from : SourceState) (before after : SinkState) (workers : ℕ) (held : Held) (answer : Answer)
    → Holds from.left held → IsAnswerTo (commands.Image workers) held answer → Done ≡ answer.status → Takes before after answer.bytes
    → TellsImage from before after
imaged_held law images from before after workers (Whole bytes) answer holds is status written =
    let found = done_reading (TellsDefined image_told) (reading_of bytes) answer is status in
    told_image law images from before after bytes found.0 found.2.0 answer holds found.1 found.2.1 found.2.2 status written
imaged_held law images from before after workers Longer answer holds is status written =
    let unreadable : Done ≡ Unreadable = status ∙ ap (λ (a : Answer). a.status) is in
    absurd (cc)

image_run : SmallLayoutsAreSound → ImagesAreMade → (words : List (List ℕ)) (workers : ℕ) (from to : SourceState) (before after : SinkState)
    → IsCommand words (commands.Image workers) → Finished words from to before after Done → TellsImage from before after
image_run law images words workers from to before after asked run =
    let given = answered words (commands.Image workers) from to run.answer asked run.defined in
    imaged_held law images from before after workers given.held run.answer given.holds given.answers run.same run.written

-- ---- maps

-- an answer to the map of lines, with the status of a good one, tells that
told_good : (from : SourceState) (before after : SinkState) (bytes : List ℕ) (lines : List Line) (verdict : Result (Unit {0}) MapFault) (answer : Answer)
    → Holds from.left (Whole bytes) → IsMap bytes lines → IsVerdict verdict (sections_of 1 lines) (segments_of 1 lines)
    → answer ≡ judged (sections_of 1 lines) (segments_of 1 lines) verdict → Done ≡ answer.status → Takes before after answer.bytes → TellsGoodMap from before after
told_good from before after bytes lines (Ok u) answer holds map is_verdict is status written = record {
  bytes = bytes;
  holds = holds;
  lines = lines;
  map = map;
  good = judged_tells (Ok u) (sections_of 1 lines) (segments_of 1 lines) is_verdict;
  written = subst (Takes before after) (ap (λ (a : Answer). a.bytes) is) written;
}
told_good from before after bytes lines (Err fault) answer holds map is_verdict is status written =
    let refused : Done ≡ Refused = status ∙ ap (λ (a : Answer). a.status) is in
    absurd (cc)

told_said : (from : SourceState) (before after : SinkState) (bytes : List ℕ) (said : Result (List SectionLine × List SegmentLine) ℕ) (answer : Answer)
    → Holds from.left (Whole bytes) → TextSays bytes said → IsMapAnswer said answer → Done ≡ answer.status → Takes before after answer.bytes
    → TellsGoodMap from before after
told_said from before after bytes (Ok told) answer holds (lines, map, same) is status written =
    let of_lines : IsMapAnswer (Ok (sections_of 1 lines, segments_of 1 lines)) answer = subst (λ both. IsMapAnswer (Ok both) answer) same is in
    told_good from before after bytes lines of_lines.0 answer holds map of_lines.1 of_lines.2 status written
told_said from before after bytes (Err line) answer holds says is status written =
    let unreadable : Done ≡ Unreadable = status ∙ ap (λ (a : Answer). a.status) is in
    absurd (cc)

checked_held : (from : SourceState) (before after : SinkState) (held : Held) (answer : Answer) → Holds from.left held
    → IsAnswerTo commands.Check held answer → Done ≡ answer.status → Takes before after answer.bytes → TellsGoodMap from before after
checked_held from before after (Whole bytes) answer holds is status written = told_said from before after bytes is.0 answer holds is.1 is.2 status written
checked_held from before after Longer answer holds is status written =
    let unreadable : Done ≡ Unreadable = status ∙ ap (λ (a : Answer). a.status) is in
    absurd (cc)

check_run : (words : List (List ℕ)) (from to : SourceState) (before after : SinkState) → IsCommand words commands.Check
    → Finished words from to before after Done → TellsGoodMap from before after
check_run words from to before after asked run =
    let given = answered words commands.Check from to run.answer asked run.defined in
    checked_held from before after given.held run.answer given.holds given.answers run.same run.written

pub sound_run : SmallLayoutsAreSound → ImagesAreMade → (words : List (List ℕ)) (from to : SourceState) (before after : SinkState) (status : Status) → IsRun words from to before after status
    → IsSoundRun words from before after status
sound_run law images words from to before after status run = record {
  read = λ workers asked laid. read_run law words workers from to before after asked (subst (IsRun words from to before after) laid run);
  generated = λ seed size asked laid. gen_run law words seed size from to before after asked (subst (IsRun words from to before after) laid run);
  checked = λ asked good. check_run words from to before after asked (subst (IsRun words from to before after) good run);
  imaged = λ workers asked done. image_run law images words workers from to before after asked (subst (IsRun words from to before after) done run);
}
