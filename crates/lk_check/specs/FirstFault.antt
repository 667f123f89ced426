-- Why a link isn't well formed: the first list that is too long, else the first rule that is broken, at its first place.
use Rattle.std.specs.Prelude.{◌≡◌, ◌↔◌, ℕ, ◌+◌, not, List, [], ◌∷◌, Option, Some, None, Result, Ok, Err, length, option_map, option_and_then, drop, position}
use Rattle.lk_link.specs.declared.fault.LinkFault.{LinkFault}
use Rattle.lk_link.specs.declared.fault.LinkFault.TheVariants.{BadLink}
use Rattle.lk_link.specs.declared.fault.Rule.{Rule}
use Rattle.lk_link.specs.declared.fault.Rule.TheVariants as rule
use Rattle.lk_link.specs.declared.fault.Place.{Place}
use Rattle.lk_link.specs.declared.fault.Place.TheVariants as place
use Rattle.lk_link.specs.declared.ids.FileId.{FileId}
use Rattle.lk_link.specs.declared.link.LinkInput.{LinkInput}
use Rattle.lk_link.specs.declared.plan.PlanSegment.{PlanSegment}
use Rattle.lk_link.specs.Alignments.{is_alignment}
use Rattle.lk_link.specs.CandidateRules.{has_good_candidates}
use Rattle.lk_link.specs.DataRules.{has_whole_data}
use Rattle.lk_link.specs.Files.{first_some}
use Rattle.lk_link.specs.InputRules.{is_good_input}
use Rattle.lk_link.specs.Rules.{is_good_options, is_good_section, has_good_singletons, has_script}
use Rattle.lk_link.specs.SegmentKinds.{is_tls}
use Rattle.lk_link.specs.SymbolRules.{is_good_symbol}
use Rattle.lk_link.specs.Symbols.{first_symbol}
use Rattle.lk_link.specs.TableRules.{has_tables}
use Rattle.lk_link.specs.WellFormed.{IsWellFormed}
use Rattle.lk_check.specs.FirstAnswer.{first_bad, first_of, where_not}
use Rattle.lk_check.specs.FirstBadEvent.{first_bad_event}
use Rattle.lk_check.specs.FirstBadExpression.{first_bad_plan_expression, first_bad_redirect}
use Rattle.lk_check.specs.FirstBadFile.{first_file_where, first_bad_prelude, first_bad_in_files}
use Rattle.lk_check.specs.FirstBadPartField.{first_bad_part_field}
use Rattle.lk_check.specs.FirstExcess.{first_excess}

-- ---- where rules are broken

-- the first thread-local segment
abbrev pub first_tls : List PlanSegment → Option ℕ
first_tls segments = position (λ s. is_tls s.kind) segments

-- the first one behind it
abbrev pub second_tls : List PlanSegment → Option ℕ
second_tls segments =
    option_and_then (λ i. option_map (λ k. i + 1 + k) (first_tls (drop (i + 1) segments))) (first_tls segments)

-- a symbol is told by its number over all files
abbrev pub symbol_place : LinkInput → FileId × ℕ → Place
symbol_place link p = place.Symbol (first_symbol link.groups p.0 + p.1)

-- an input section by its file and its index there
abbrev pub input_place : FileId × ℕ → Place
input_place p = place.Input p.0 p.1

-- ---- the rules

-- where a link breaks a rule first, if it does; those on tables and on data hold of discarded sections too
unfoldable pub first_place : LinkInput → Rule → Option Place
first_place link rule.Options = where_not (is_good_options link.groups link.options) place.Options
first_place link rule.Page = where_not (is_alignment link.plan.page) place.Plan
first_place link rule.Sections = option_map place.Section (first_bad (is_good_section link.plan.sections) link.plan.sections)
first_place link rule.PartFields = option_map place.PartField (first_bad_part_field link)
first_place link rule.Singletons = where_not (has_good_singletons link) place.Plan
first_place link rule.TlsSegment = option_map place.Segment (second_tls link.plan.segments)
first_place link rule.Events = option_map place.Event (first_bad_event (has_script link.groups) link.plan)
first_place link rule.Expressions = first_some (first_bad_plan_expression link) (option_map (symbol_place link) (first_bad_redirect link))
first_place link rule.Prelude = first_bad_prelude link.groups
first_place link rule.Symbols = option_map (symbol_place link) (first_bad_in_files (λ f. f.symbols) (is_good_symbol link) link.groups)
first_place link rule.InputSections =
    option_map input_place (first_bad_in_files (λ f. f.sections) (λ f. is_good_input link.plan (length f.symbols)) link.groups)
first_place link rule.Tables = option_map input_place (first_bad_in_files (λ f. f.sections) (λ f. has_tables link.plan.named) link.groups)
first_place link rule.Candidates = first_file_where (λ f. not (has_good_candidates link f.file)) link.groups
first_place link rule.Data = option_map input_place (first_bad_in_files (λ f. f.sections) (λ f. has_whole_data) link.groups)

-- the order in which rules are looked at: that of their numbers
abbrev pub all_rules : List Rule
all_rules = rule.Options ∷ rule.Page ∷ rule.Sections ∷ rule.PartFields ∷ rule.Singletons ∷ rule.TlsSegment ∷ rule.Events ∷ rule.Expressions
    ∷ rule.Prelude ∷ rule.Symbols ∷ rule.InputSections ∷ rule.Tables ∷ rule.Candidates ∷ rule.Data ∷ []

-- the fault of a rule, if the link breaks it
abbrev pub rule_fault : LinkInput → Rule → Option LinkFault
rule_fault link r = option_map (BadLink r) (first_place link r)

-- why a link is refused: the first list that is too long, else the first broken rule
unfoldable pub first_fault : LinkInput → Option LinkFault
first_fault link = first_some (first_excess link) (first_of (rule_fault link) all_rules)

-- what a check answers: the fault, if there is one
unfoldable pub check_of : Option LinkFault → Result (Unit {0}) LinkFault
check_of None = Ok tt
check_of (Some fault) = Err fault

-- ---- the law

-- a link is well formed exactly where it has no fault
abbrev pub WellFormedExactlyUnfaulted : Type 0
WellFormedExactlyUnfaulted = (link : LinkInput) → IsWellFormed link ↔ (first_fault link ≡ None)
