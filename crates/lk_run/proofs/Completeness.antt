-- What the words and the input define is what a run tells.
use Rattle.std.proofs.Common.{◌≡◌, ◌⊎◌, inl, inr, Bool, true, false, true≢false, ℕ, List, [], ◌++◌, length, Option, Some, None, Result, Ok, Err, sym, subst, ap, ◌∙◌, refl, arith}
use Rattle.std.proofs.lemmas.Bool.{cases_lt}
use Rattle.std.specs.Prelude.{MatchBool, MatchOption, codes, slice_index_or}
use Rattle.lk_input.specs.declared.read.error.InputError.{InputError}
use Rattle.lk_input.specs.Reading.{reading_of}
use Rattle.lk_generator.specs.Generated.{generated_link}
use Rattle.lk_check.specs.FirstFault.{WellFormedExactlyUnfaulted, first_fault}
use Rattle.lk_explain.specs.Faults.{has_unit}
use Rattle.lk_explain.specs.Laws.{ReachedIsShown, ShownIsOne}
use Rattle.lk_explain.proofs.NumberLemmas.{reached_by}
use Rattle.lk_explain.proofs.PathLemmas.{has_is_unit}
use Rattle.lk_image.specs.declared.error.ImageError.{ImageError}
use Rattle.lk_image.specs.Refusals.{image_refusal}
use Rattle.lk_link.specs.declared.fault.LinkFault.{LinkFault}
use Rattle.lk_link.specs.declared.ids.FileId.{FileId}
use Rattle.lk_link.specs.declared.link.LinkInput.{LinkInput}
use Rattle.lk_link.specs.Texts.{link_fault_text}
use Rattle.lk_link.specs.WellFormed.{IsWellFormed}
use Rattle.lk_map.specs.declared.check.MapFault.{MapFault}
use Rattle.lk_map.specs.declared.map_text.SectionLine.{SectionLine}
use Rattle.lk_map.specs.declared.map_text.SegmentLine.{SegmentLine}
use Rattle.lk_map.specs.Checking.{IsVerdict}
use Rattle.lk_map.specs.Good.{IsGood}
use Rattle.lk_map.specs.Reading.{map_of, TextsAreRead}
use Rattle.lk_map.specs.Verdicts.{MapsAreJudged, MapsRise, VerdictsAgree, VerdictsTellGood}
use Rattle.lk_map.specs.Written.{TextSays}
use Rattle.lk_reach.specs.declared.units.Unit.{Unit as LinkUnit}
use Rattle.lk_reach.specs.declared.units.Unit.TheVariants.{Sec}
use Rattle.lk_reach.specs.Laws.{MarksAreReached}
use Rattle.lk_reach.specs.Marks.{reached_marks, unit_number}
use Rattle.lk_layout.specs.Machines.{small64_machine}
use Rattle.lk_layout.specs.declared.error.LayoutError.{LayoutError}
use Rattle.lk_layout.specs.LayoutRecord.{LayoutRecord}
use Rattle.lk_layout.specs.Defined.{IsDefined}
use Rattle.lk_layout.specs.Laws.{DefinedAnswerExists, DefinedAnswerIsOne}
use Rattle.lk_report.specs.Report.{report}
use Rattle.lk_report.specs.Summary.{summary}
use Rattle.lk_run.specs.declared.answer.Answer.{Answer}
use Rattle.lk_devices.specs.declared.limit.TheConstants.{LONGEST_INPUT}
use Rattle.lk_run.specs.declared.status.Status.{Status}
use Rattle.lk_run.specs.declared.status.Status.TheVariants.{Done, Refused, Usage, Unreadable, ReadFault, WriteFault, NoMemory}
use Rattle.lk_run.specs.declared.words.Command.{Command}
use Rattle.lk_run.specs.declared.words.Command.TheVariants as commands
use Rattle.lk_run.specs.Complete.{AreGoodMap, CheckRunsAreComplete, DescribesLayout, DescribesSection, IsAnswerFor, IsAnswerOver, IsFaultless, RunsTellOneAnswer, RunsTellTheAnswer, Tells, WhyRunsAreComplete}
use Rattle.lk_devices.specs.Device.{SourceState, SinkState}
use Rattle.lk_run.specs.FaultText.{input_fault_text_of}
use Rattle.lk_run.specs.Run.{Held, Whole, Longer, Holds, Takes, IsAnswerOf, IsAnswerTo, IsAnswerToReading, IsMapAnswer, IsSectionAnswer, IsWayAnswer, IsWhyAnswer, done, judged, refused, unreadable, Commanded, Unmoved, IsDefinedFor, Finished, IsRun, TellsDefined, Unread, image_told, imaged, told_of}
use Rattle.lk_run.specs.TooLong.{too_long_text}
use Rattle.lk_run.specs.MapTexts.{no_map_text}
use Rattle.lk_run.specs.WhyTexts.{IsWay, no_section_text, why_text}
use Rattle.lk_run.specs.Words.{IsCommand, command_of, reads, usage}
use Rattle.lk_run.proofs.Commands.{one_command, reads_command, reads_none}
use Rattle.lk_run.proofs.RunLaws.{answered}

-- ---- the laws that it stands on

-- by which each command has an answer
pub record AnswersExist : Type 0 where
  pub layouts : DefinedAnswerExists
  pub unfaulted : WellFormedExactlyUnfaulted
  pub marks : MarksAreReached
  pub shown : ReachedIsShown
  pub texts : TextsAreRead
  pub rises : MapsRise
  pub verdicts : MapsAreJudged

-- by which it is one
pub record AnswersAreOne : Type 0 where
  pub layouts : DefinedAnswerIsOne
  pub unfaulted : WellFormedExactlyUnfaulted
  pub shown : ShownIsOne
  pub texts : TextsAreRead
  pub verdicts : VerdictsAgree

-- ---- there is an answer

reading_answer : (to_link : LinkInput → Answer → Type 0) → ((link : LinkInput) → (answer : Answer) × to_link link answer)
    → (reading : Result LinkInput InputError) → (answer : Answer) × IsAnswerToReading to_link reading answer
reading_answer to_link every (Ok link) = every link
reading_answer to_link every (Err e) = (unreadable (input_fault_text_of e), refl)

defined_answer : AnswersExist → (told : LinkInput → LayoutRecord → Answer) (link : LinkInput) → (answer : Answer) × TellsDefined told link answer
defined_answer law told link = let found = law.layouts small64_machine link in (told_of (told link) found.0, (found.0, found.1, refl))

-- a unit is reached or not, as its mark says
way_by_mark : AnswersExist → (link : LinkInput) (unit : LinkUnit) → IsWellFormed link → has_unit link unit ≡ true → (mark : Bool)
    → slice_index_or (reached_marks link) (unit_number link.groups unit) false ≡ mark → (way : Option (List LinkUnit)) × IsWay link unit way
way_by_mark law link unit wf there true is =
    let found = law.shown link unit wf ((law.marks link unit wf (has_is_unit link unit there)).0 is) in
    (Some found.0, found.1)
way_by_mark law link unit wf there false is =
    (None, λ reached. true≢false (sym ((law.marks link unit wf (has_is_unit link unit there)).1 reached) ∙ is))

section_answer : AnswersExist → (link : LinkInput) (file : FileId) (index : ℕ) → IsWellFormed link → (is_there : Bool) → has_unit link (Sec file index) ≡ is_there
    → (answer : Answer) × MatchBool is_there (IsWayAnswer link file index answer) (answer ≡ refused (no_section_text file index))
section_answer law link file index wf true there =
    let found = way_by_mark law link (Sec file index) wf there (slice_index_or (reached_marks link) (unit_number link.groups (Sec file index)) false) refl in
    (done (why_text file index found.0), (found.0, found.1, refl))
section_answer law link file index wf false there = (refused (no_section_text file index), refl)

why_answer : AnswersExist → (file : FileId) (index : ℕ) (link : LinkInput) (found : Option LinkFault) → first_fault link ≡ found
    → (answer : Answer) × MatchOption found (IsSectionAnswer link file index answer) (λ fault. answer ≡ refused (link_fault_text fault ++ codes "\n"))
why_answer law file index link None is = section_answer law link file index ((law.unfaulted link).1 is) (has_unit link (Sec file index)) refl
why_answer law file index link (Some fault) is = (refused (link_fault_text fault ++ codes "\n"), refl)

map_answer : AnswersExist → (text : List ℕ) (said : Result (List SectionLine × List SegmentLine) ℕ) → TextSays text said → (answer : Answer) × IsMapAnswer said answer
map_answer law text (Ok map) says =
    let found = law.verdicts map.0 map.1 (law.rises text map.0 map.1 says) in
    (judged map.0 map.1 found.0, (found.0, found.1, refl))
map_answer law text (Err line) says = (unreadable (no_map_text line), refl)

check_answer : AnswersExist → (text : List ℕ) → (answer : Answer) × IsAnswerOf commands.Check text answer
check_answer law text =
    let says = (law.texts text (map_of text)).0 refl in
    let found = map_answer law text (map_of text) says in
    (found.0, (map_of text, says, found.1))

-- a case for each command
command_answer : AnswersExist → (command : Command) (bytes : List ℕ) → (answer : Answer) × IsAnswerOf command bytes answer
command_answer law (commands.Layout workers) bytes =
    let told : LinkInput → LayoutRecord → Answer = λ link layout. done (report link layout) in
    reading_answer (TellsDefined told) (defined_answer law told) (reading_of bytes)
command_answer law (commands.Gen seed size) bytes = defined_answer law (λ link layout. done (summary seed size layout)) (generated_link seed size)
command_answer law (commands.Why file index) bytes =
    reading_answer (IsWhyAnswer file index) (λ link. why_answer law file index link (first_fault link) refl) (reading_of bytes)
command_answer law commands.Check bytes = check_answer law bytes
command_answer law (commands.Image workers) bytes = reading_answer (TellsDefined image_told) (defined_answer law image_told) (reading_of bytes)

held_answer : AnswersExist → (command : Command) (held : Held) → (answer : Answer) × IsAnswerTo command held answer
held_answer law command (Whole bytes) = command_answer law command bytes
held_answer law command Longer = (unreadable too_long_text, refl)

-- what bytes are held as
held_of : (bytes : List ℕ) → (held : Held) × Holds (Some bytes) held
held_of bytes = elim (cases_lt LONGEST_INPUT (length bytes)) [
  | inl longer ↦ (Longer, longer)
  | inr fits ↦ (Whole bytes, (fits, refl))
]

-- ---- and it is one

one_of_reading : (to_link : LinkInput → Answer → Type 0) → ((link : LinkInput) (a b : Answer) → to_link link a → to_link link b → a ≡ b)
    → (reading : Result LinkInput InputError) (a b : Answer) → IsAnswerToReading to_link reading a → IsAnswerToReading to_link reading b → a ≡ b
one_of_reading to_link one (Ok link) a b p q = one link a b p q
one_of_reading to_link one (Err e) a b p q = p ∙ sym q

one_defined : AnswersAreOne → (told : LinkInput → LayoutRecord → Answer) (link : LinkInput) (a b : Answer) → TellsDefined told link a → TellsDefined told link b → a ≡ b
one_defined law told link a b p q = p.2 ∙ ap (told_of (told link)) (law.layouts small64_machine link p.0 q.0 p.1 q.1) ∙ sym q.2

one_way : AnswersAreOne → (link : LinkInput) (unit : LinkUnit) → IsWellFormed link → (a b : Option (List LinkUnit)) → IsWay link unit a → IsWay link unit b → a ≡ b
one_way law link unit wf (Some path) (Some other) p q = ap Some (law.shown link path other unit wf p q)
one_way law link unit wf (Some path) None p q = absurd (q (reached_by link path unit p.leads))
one_way law link unit wf None (Some other) p q = absurd (p (reached_by link other unit q.leads))
one_way law link unit wf None None p q = refl

one_section : AnswersAreOne → (link : LinkInput) (file : FileId) (index : ℕ) → IsWellFormed link → (is_there : Bool) (a b : Answer)
    → MatchBool is_there (IsWayAnswer link file index a) (a ≡ refused (no_section_text file index))
    → MatchBool is_there (IsWayAnswer link file index b) (b ≡ refused (no_section_text file index)) → a ≡ b
one_section law link file index wf true a b p q =
    p.2 ∙ ap (λ way. done (why_text file index way)) (one_way law link (Sec file index) wf p.0 q.0 p.1 q.1) ∙ sym q.2
one_section law link file index wf false a b p q = p ∙ sym q

one_why : AnswersAreOne → (file : FileId) (index : ℕ) (link : LinkInput) (found : Option LinkFault) (a b : Answer) → first_fault link ≡ found
    → MatchOption found (IsSectionAnswer link file index a) (λ fault. a ≡ refused (link_fault_text fault ++ codes "\n"))
    → MatchOption found (IsSectionAnswer link file index b) (λ fault. b ≡ refused (link_fault_text fault ++ codes "\n")) → a ≡ b
one_why law file index link None a b is p q = one_section law link file index ((law.unfaulted link).1 is) (has_unit link (Sec file index)) a b p q
one_why law file index link (Some fault) a b is p q = p ∙ sym q

one_of_map : AnswersAreOne → (said : Result (List SectionLine × List SegmentLine) ℕ) (a b : Answer) → IsMapAnswer said a → IsMapAnswer said b → a ≡ b
one_of_map law (Ok map) a b p q = p.2 ∙ ap (judged map.0 map.1) (law.verdicts map.0 map.1 p.0 q.0 p.1 q.1) ∙ sym q.2
one_of_map law (Err line) a b p q = p ∙ sym q

-- a text says one thing
said_is_one : TextsAreRead → (text : List ℕ) (said other : Result (List SectionLine × List SegmentLine) ℕ) → TextSays text said → TextSays text other → said ≡ other
said_is_one law text said other p q = sym ((law text said).1 p) ∙ (law text other).1 q

one_of_check : AnswersAreOne → (text : List ℕ) (a b : Answer) → IsAnswerOf commands.Check text a → IsAnswerOf commands.Check text b → a ≡ b
one_of_check law text a b p q =
    let same : p.0 ≡ q.0 = said_is_one law.texts text p.0 q.0 p.1 q.1 in
    one_of_map law q.0 a b (subst (λ said. IsMapAnswer said a) same p.2) q.2

-- a case for each command
one_of_command : AnswersAreOne → (command : Command) (bytes : List ℕ) (a b : Answer) → IsAnswerOf command bytes a → IsAnswerOf command bytes b → a ≡ b
one_of_command law (commands.Layout workers) bytes a b p q =
    let told : LinkInput → LayoutRecord → Answer = λ link layout. done (report link layout) in
    one_of_reading (TellsDefined told) (one_defined law told) (reading_of bytes) a b p q
one_of_command law (commands.Gen seed size) bytes a b p q = one_defined law (λ link layout. done (summary seed size layout)) (generated_link seed size) a b p q
one_of_command law (commands.Why file index) bytes a b p q =
    one_of_reading (IsWhyAnswer file index) (λ link c d. one_why law file index link (first_fault link) c d refl) (reading_of bytes) a b p q
one_of_command law commands.Check bytes a b p q = one_of_check law bytes a b p q
one_of_command law (commands.Image workers) bytes a b p q = one_of_reading (TellsDefined image_told) (one_defined law image_told) (reading_of bytes) a b p q

one_of_held : AnswersAreOne → (command : Command) (held : Held) (a b : Answer) → IsAnswerTo command held a → IsAnswerTo command held b → a ≡ b
one_of_held law command (Whole bytes) a b p q = one_of_command law command bytes a b p q
one_of_held law command Longer a b p q = p ∙ sym q

one_held : (bytes : List ℕ) (h k : Held) → Holds (Some bytes) h → Holds (Some bytes) k → h ≡ k
one_held bytes (Whole b) (Whole c) p q = ap Whole (sym p.1 ∙ q.1)
one_held bytes (Whole b) Longer p q = let same : length bytes ≡ length b = ap length p.1 in absurd (omega (arith, same, p.0, q))
one_held bytes Longer (Whole c) p q = let same : length bytes ≡ length c = ap length q.1 in absurd (omega (arith, same, q.0, p))
one_held bytes Longer Longer p q = refl

-- the answer that each run of these words over these bytes tells
abbrev IsTheAnswer : SourceState → List (List ℕ) → Answer → Type 0
IsTheAnswer from words answer = (to : SourceState) (told : Answer) → IsDefinedFor words from to told → told ≡ answer

-- that of a command which reads, and of one which doesn't
over_answer : AnswersExist → (bytes : List ℕ) (does_read : Bool) (command : Command)
    → (answer : Answer) × MatchBool does_read ((held : Held) × Holds (Some bytes) held × IsAnswerTo command held answer) (IsAnswerOf command [] answer)
over_answer every bytes true command =
    let held = held_of bytes in
    let found = held_answer every command held.0 in
    (found.0, (held.0, held.1, found.1))
over_answer every bytes false command = command_answer every command []

answer_over : AnswersExist → (bytes : List ℕ) (command : Option Command) → (answer : Answer) × IsAnswerOver bytes command answer
answer_over every bytes None = (record { status = Usage; bytes = usage }, refl)
answer_over every bytes (Some command) = over_answer every bytes (reads command) command

-- each run tells it
its_answer : AnswersAreOne → (from : SourceState) (bytes : List ℕ) → from.left ≡ Some bytes → (does_read : Bool) (command : Command) (answer : Answer)
    → MatchBool does_read ((held : Held) × Holds (Some bytes) held × IsAnswerTo command held answer) (IsAnswerOf command [] answer)
    → (to : SourceState) (told : Answer) → MatchBool does_read (Commanded command from to told) (Unmoved command from to told) → told ≡ answer
its_answer one from bytes left true command answer given to told is =
    let holds : Holds (Some bytes) is.held = subst (λ o. Holds o is.held) left is.holds in
    let same : is.held ≡ given.0 = one_held bytes is.held given.0 holds given.1 in
    one_of_held one command given.0 told answer (subst (λ h. IsAnswerTo command h told) same is.answers) given.2
its_answer one from bytes left false command answer given to told is = one_of_command one command [] told answer is.answers given

the_answer : AnswersAreOne → (from : SourceState) (bytes : List ℕ) → from.left ≡ Some bytes → (words : List (List ℕ)) (answer : Answer)
    → IsAnswerFor words bytes answer → IsTheAnswer from words answer
the_answer one from bytes left words answer given to told (inl asked) =
    let over : IsAnswerOver bytes (Some asked.0) answer = subst (λ c. IsAnswerOver bytes c answer) (reads_command words asked.0 asked.1) given in
    its_answer one from bytes left (reads asked.0) asked.0 answer over to told asked.2
the_answer one from bytes left words answer given to told (inr unasked) =
    let over : IsAnswerOver bytes None answer = subst (λ c. IsAnswerOver bytes c answer) (reads_none words unasked.none) given in
    unasked.answers ∙ sym over

-- a run whose devices didn't fail told it
finished_tells : (words : List (List ℕ)) (from to : SourceState) (before after : SinkState) (status : Status) (answer : Answer) → IsTheAnswer from words answer
    → Finished words from to before after status → Tells before after status answer
finished_tells words from to before after status answer is run =
    let same : run.answer ≡ answer = is to run.answer run.defined in
    record {
      same = run.same ∙ ap (λ (a : Answer). a.status) same;
      written = subst (λ (a : Answer). Takes before after a.bytes) same run.written;
    }

tells : (words : List (List ℕ)) (from to : SourceState) (before after : SinkState) (status : Status) (answer : Answer) → IsTheAnswer from words answer
    → IsRun words from to before after status → IsFaultless from to before after → Tells before after status answer ⊎ (status ≡ NoMemory)
tells words from to before after Done answer is run faultless = inl (finished_tells words from to before after Done answer is run)
tells words from to before after Refused answer is run faultless = inl (finished_tells words from to before after Refused answer is run)
tells words from to before after Usage answer is run faultless = inl (finished_tells words from to before after Usage answer is run)
tells words from to before after Unreadable answer is run faultless = inl (finished_tells words from to before after Unreadable answer is run)
tells words from to before after ReadFault answer is run faultless = absurd (omega (arith, run.faulty, faultless.source))
tells words from to before after WriteFault answer is run faultless = absurd (omega (arith, run.written.faulty, faultless.sink))
tells words from to before after NoMemory answer is run faultless = inr refl

pub runs_tell_the_answer : AnswersAreOne → RunsTellTheAnswer
runs_tell_the_answer one words bytes answer given from to before after status left run faultless =
    tells words from to before after status answer (the_answer one from bytes left words answer given) run faultless

pub runs_tell : AnswersExist → AnswersAreOne → RunsTellOneAnswer
runs_tell every one words bytes =
    let found = answer_over every bytes (command_of words) in
    (found.0, found.1, runs_tell_the_answer one words bytes found.0 found.1)

-- ---- a description that meets no refusal

-- a run in which no device failed ends so, if each of its answers does
completes : (words : List (List ℕ)) (from to : SourceState) (before after : SinkState) (status : Status)
    → ((s : Status) → Finished words from to before after s → s ≡ Done)
    → IsRun words from to before after status → IsFaultless from to before after → (status ≡ Done) ⊎ (status ≡ NoMemory)
completes words from to before after Done ends run faultless = inl refl
completes words from to before after NoMemory ends run faultless = inr refl
completes words from to before after Refused ends run faultless = inl (ends Refused run)
completes words from to before after Usage ends run faultless = inl (ends Usage run)
completes words from to before after Unreadable ends run faultless = inl (ends Unreadable run)
completes words from to before after ReadFault ends run faultless = absurd (omega (arith, run.faulty, faultless.source))
completes words from to before after WriteFault ends run faultless = absurd (omega (arith, run.written.faulty, faultless.sink))

-- the answer to a link that bytes describe
told_described : (to_link : LinkInput → Answer → Type 0) (bytes held : List ℕ) (answer : Answer) (good : DescribesLayout bytes) → bytes ≡ held
    → IsAnswerToReading to_link (reading_of held) answer → to_link good.link answer
told_described to_link bytes held answer good same is =
    let described : reading_of held ≡ Ok good.link = ap reading_of (sym same) ∙ good.described in
    subst (λ r. IsAnswerToReading to_link r answer) described is

-- what a command that reads was answered
read_answer : (words : List (List ℕ)) (command : Command) (from to : SourceState) (answer : Answer) → IsCommand words command → reads command ≡ true
    → IsDefinedFor words from to answer → Commanded command from to answer
read_answer words command from to answer asked does given =
    subst (λ b. MatchBool b (Commanded command from to answer) (Unmoved command from to answer)) does
    (answered words command from to answer asked given)

-- what is told of a layout of a link that meets no refusal
told_result : (told : LayoutRecord → Answer) (link : LinkInput) (result : Result LayoutRecord LayoutError) (answer : Answer)
    → ((e : LayoutError) → IsDefined small64_machine link (Err e) → ⊥) → ((layout : LayoutRecord) → IsDefined small64_machine link (Ok layout) → (told layout).status ≡ Done)
    → IsDefined small64_machine link result → answer ≡ told_of told result → answer.status ≡ Done
told_result told link (Ok layout) answer unrefused ends defined is = ap (λ (a : Answer). a.status) is ∙ ends layout defined
told_result told link (Err e) answer unrefused ends defined is = absurd (unrefused e defined)

told_done : (workers : ℕ) (bytes : List ℕ) (held : Held) (answer : Answer) → DescribesLayout bytes → Holds (Some bytes) held
    → IsAnswerTo (commands.Layout workers) held answer → answer.status ≡ Done
told_done workers bytes (Whole b) answer good holds is =
    let told : LinkInput → LayoutRecord → Answer = λ link layout. done (report link layout) in
    let answers : TellsDefined told good.link answer = told_described (TellsDefined told) bytes b answer good holds.1 is in
    told_result (told good.link) good.link answers.0 answer good.unrefused (λ layout defined. refl) answers.1 answers.2
told_done workers bytes Longer answer good holds is = absurd (omega (arith, good.fits, holds))

pub complete : (words : List (List ℕ)) (workers : ℕ) (bytes : List ℕ) (from to : SourceState) (before after : SinkState) (status : Status)
    → IsCommand words (commands.Layout workers) → from.left ≡ Some bytes → DescribesLayout bytes
    → IsRun words from to before after status → IsFaultless from to before after → (status ≡ Done) ⊎ (status ≡ NoMemory)
complete words workers bytes from to before after status asked left good run faultless =
    completes words from to before after status (λ s finished.
    let given = read_answer words (commands.Layout workers) from to finished.answer asked refl finished.defined in
    finished.same ∙ told_done workers bytes given.held finished.answer good (subst (λ o. Holds o given.held) left given.holds) given.answers) run faultless

-- ---- and whose image meets none

-- no layout of the link has an image that is refused
abbrev HaveImages : LinkInput → Type 0
HaveImages link = (layout : LayoutRecord) → IsDefined small64_machine link (Ok layout) → image_refusal link layout ≡ None

imaged_done : (workers : ℕ) (bytes : List ℕ) (held : Held) (answer : Answer) (good : DescribesLayout bytes) → HaveImages good.link → Holds (Some bytes) held
    → IsAnswerTo (commands.Image workers) held answer → answer.status ≡ Done
imaged_done workers bytes (Whole b) answer good clear holds is =
    let answers : TellsDefined image_told good.link answer = told_described (TellsDefined image_told) bytes b answer good holds.1 is in
    told_result (image_told good.link) good.link answers.0 answer good.unrefused
    (λ layout defined. ap (λ (o : Option ImageError). (imaged good.link layout o).status) (clear layout defined)) answers.1 answers.2
imaged_done workers bytes Longer answer good clear holds is = absurd (omega (arith, good.fits, holds))

pub image_complete : (words : List (List ℕ)) (workers : ℕ) (bytes : List ℕ) (from to : SourceState) (before after : SinkState) (status : Status)
    → IsCommand words (commands.Image workers) → from.left ≡ Some bytes → (good : DescribesLayout bytes) → HaveImages good.link
    → IsRun words from to before after status → IsFaultless from to before after → (status ≡ Done) ⊎ (status ≡ NoMemory)
image_complete words workers bytes from to before after status asked left good clear run faultless =
    completes words from to before after status (λ s finished.
    let given = read_answer words (commands.Image workers) from to finished.answer asked refl finished.defined in
    finished.same ∙ imaged_done workers bytes given.held finished.answer good clear (subst (λ o. Holds o given.held) left given.holds) given.answers) run faultless

-- ---- why a section is kept

section_done : (link : LinkInput) (file : FileId) (index : ℕ) (answer : Answer) → has_unit link (Sec file index) ≡ true
    → IsSectionAnswer link file index answer → answer.status ≡ Done
section_done link file index answer there is =
    let told : IsWayAnswer link file index answer =
    subst (λ b. MatchBool b (IsWayAnswer link file index answer) (answer ≡ refused (no_section_text file index))) there is in
    ap (λ (a : Answer). a.status) told.2

why_done : (bytes : List ℕ) (file : FileId) (index : ℕ) (held : Held) (answer : Answer) → DescribesSection bytes file index → Holds (Some bytes) held
    → IsAnswerTo (commands.Why file index) held answer → answer.status ≡ Done
why_done bytes file index (Whole b) answer good holds is =
    let described : reading_of b ≡ Ok good.link = ap reading_of (sym holds.1) ∙ good.described in
    let answers : IsWhyAnswer file index good.link answer = subst (λ r. IsAnswerToReading (IsWhyAnswer file index) r answer) described is in
    section_done good.link file index answer good.there
    (subst (λ o. MatchOption o (IsSectionAnswer good.link file index answer) (λ fault. answer ≡ refused (link_fault_text fault ++ codes "\n"))) good.unfaulted answers)
why_done bytes file index Longer answer good holds is = absurd (omega (arith, good.fits, holds))

pub why_complete : WhyRunsAreComplete
why_complete words file index bytes from to before after status asked left good run faultless =
    completes words from to before after status (λ s finished.
    let given = read_answer words (commands.Why file index) from to finished.answer asked refl finished.defined in
    finished.same ∙ why_done bytes file index given.held finished.answer good (subst (λ o. Holds o given.held) left given.holds) given.answers) run faultless

-- ---- a good map

verdict_done : VerdictsTellGood → (sections : List SectionLine) (segments : List SegmentLine) (verdict : Result (Unit {0}) MapFault) (answer : Answer)
    → IsGood sections segments → IsVerdict verdict sections segments → answer ≡ judged sections segments verdict → answer.status ≡ Done
verdict_done law sections segments verdict answer good judges is =
    ap (λ (a : Answer). a.status) (is ∙ ap (judged sections segments) ((law sections segments verdict judges).1 good))

check_done : TextsAreRead → VerdictsTellGood → (bytes : List ℕ) (held : Held) (answer : Answer) → AreGoodMap bytes → Holds (Some bytes) held
    → IsAnswerTo commands.Check held answer → answer.status ≡ Done
check_done texts law bytes (Whole b) answer map holds is =
    let says : TextSays b (Ok (map.sections, map.segments)) = subst (λ text. TextSays text (Ok (map.sections, map.segments))) holds.1 map.says in
    let same : is.0 ≡ Ok (map.sections, map.segments) = said_is_one texts b is.0 (Ok (map.sections, map.segments)) is.1 says in
    let answers : IsMapAnswer (Ok (map.sections, map.segments)) answer = subst (λ said. IsMapAnswer said answer) same is.2 in
    verdict_done law map.sections map.segments answers.0 answer map.good answers.1 answers.2
check_done texts law bytes Longer answer map holds is = absurd (omega (arith, map.fits, holds))

pub check_complete : TextsAreRead → VerdictsTellGood → CheckRunsAreComplete
check_complete texts law words bytes from to before after status asked left map run faultless =
    completes words from to before after status (λ s finished.
    let given = read_answer words commands.Check from to finished.answer asked refl finished.defined in
    finished.same ∙ check_done texts law bytes given.held finished.answer map (subst (λ o. Holds o given.held) left given.holds) given.answers) run faultless

-- ---- a generated link that meets no refusal

generated_laid_out : (words : List (List ℕ)) (seed size : ℕ) (from to : SourceState) (before after : SinkState) (status : Status)
    → IsCommand words (commands.Gen seed size) → ((e : LayoutError) → IsDefined small64_machine (generated_link seed size) (Err e) → ⊥)
    → Finished words from to before after status → status ≡ Done
generated_laid_out words seed size from to before after status asked unrefused run =
    let given = answered words (commands.Gen seed size) from to run.answer asked run.defined in
    run.same ∙ told_result (λ layout. done (summary seed size layout)) (generated_link seed size) given.answers.0 run.answer unrefused (λ layout defined. refl) given.answers.1 given.answers.2

-- what reads nothing meets no fault of the source
never_unread : (words : List (List ℕ)) (seed size : ℕ) (from to : SourceState) (before after : SinkState) → IsCommand words (commands.Gen seed size)
    → Unread words from to before after → ⊥
never_unread words seed size from to before after asked run =
    let command : run.command ≡ commands.Gen seed size = one_command words run.command (commands.Gen seed size) run.asked asked in
    let reading : false ≡ true = subst (λ c. reads c ≡ true) command run.reading in
    absurd (cc)

pub generated_complete : (words : List (List ℕ)) (seed size : ℕ) (from to : SourceState) (before after : SinkState) (status : Status)
    → IsCommand words (commands.Gen seed size) → ((e : LayoutError) → IsDefined small64_machine (generated_link seed size) (Err e) → ⊥)
    → IsRun words from to before after status → after.faults ≡ before.faults → (status ≡ Done) ⊎ (status ≡ NoMemory)
generated_complete words seed size from to before after Done asked unrefused run faultless = inl refl
generated_complete words seed size from to before after NoMemory asked unrefused run faultless = inr refl
generated_complete words seed size from to before after Refused asked unrefused run faultless =
    inl (generated_laid_out words seed size from to before after Refused asked unrefused run)
generated_complete words seed size from to before after Usage asked unrefused run faultless =
    inl (generated_laid_out words seed size from to before after Usage asked unrefused run)
generated_complete words seed size from to before after Unreadable asked unrefused run faultless =
    inl (generated_laid_out words seed size from to before after Unreadable asked unrefused run)
generated_complete words seed size from to before after ReadFault asked unrefused run faultless =
    absurd (never_unread words seed size from to before after asked run)
generated_complete words seed size from to before after WriteFault asked unrefused run faultless = absurd (omega (arith, run.written.faulty, faultless))
