-- What a well-formed link is.
use Rattle.std.specs.Prelude.{◌≡◌, ℕ, ◌<◌, ◌≤◌, Some, List, count_by, length, slice_get, true}
use Rattle.std.specs.List.{list_all, list_any}
use Rattle.lk_link.specs.declared.fault.Limited.{Limited}
use Rattle.lk_link.specs.declared.file.InputFile.{InputFile}
use Rattle.lk_link.specs.declared.ids.FileId.{FileId}
use Rattle.lk_link.specs.declared.link.LinkInput.{LinkInput}
use Rattle.lk_link.specs.declared.plan.Plan.{Plan}
use Rattle.lk_link.specs.declared.plan.OrderEvent.{OrderEvent}
use Rattle.lk_link.specs.declared.plan.OrderEvent.TheVariants.{SegmentStart, SegmentEnd, Section, SetLocation, SetLocationRelative, SetSectionAddress}
use Rattle.lk_link.specs.Alignments.{is_alignment}
use Rattle.lk_link.specs.CandidateRules.{has_good_candidates}
use Rattle.lk_link.specs.DataRules.{has_file_data}
use Rattle.lk_link.specs.ExpressionRules.{HasGoodExpressions}
use Rattle.lk_link.specs.FileKinds.{is_prelude}
use Rattle.lk_link.specs.Files.{file_in}
use Rattle.lk_link.specs.InputRules.{has_good_inputs}
use Rattle.lk_link.specs.Limits.{counted, limit_of}
use Rattle.lk_link.specs.PartFieldRules.{HasGoodPartFields}
use Rattle.lk_link.specs.Rules.{is_good_options, is_good_section, has_good_singletons, has_script, is_location, begins_with_prelude}
use Rattle.lk_link.specs.SegmentKinds.{is_tls}
use Rattle.lk_link.specs.SymbolRules.{is_good_symbol, file_symbols}
use Rattle.lk_link.specs.Symbols.{all_files}
use Rattle.lk_link.specs.TableRules.{has_file_tables}

-- what an event names is there
abbrev pub IsInRange : Plan → OrderEvent → Type 0
IsInRange plan (Section s) = s < length plan.sections
IsInRange plan (SegmentStart i) = i < length plan.segments
IsInRange plan (SegmentEnd i) = i < length plan.segments
IsInRange plan (SetLocation e) = Unit {0}
IsInRange plan (SetLocationRelative e s) = s < length plan.sections
IsInRange plan (SetSectionAddress e) = Unit {0}

-- an event that places a section, or opens or closes a segment, and doesn't only move the location
abbrev pub IsAboutPlace : OrderEvent → Type 0
IsAboutPlace (Section s) = Unit {0}
IsAboutPlace (SegmentStart i) = Unit {0}
IsAboutPlace (SegmentEnd i) = Unit {0}
IsAboutPlace (SetLocation e) = ⊥
IsAboutPlace (SetLocationRelative e s) = ⊥
IsAboutPlace (SetSectionAddress e) = ⊥

-- each section is placed once, and each segment is opened once and closed once after that
pub record IsEventOrder (plan : Plan) : Type 0 where
  pub in_range : (k : ℕ) (e : OrderEvent) → slice_get plan.events k ≡ Some e → IsInRange plan e
  pub once : (j k : ℕ) (e : OrderEvent) → IsAboutPlace e → slice_get plan.events j ≡ Some e → slice_get plan.events k ≡ Some e → j ≡ k
  pub placed : (s : ℕ) → s < length plan.sections → (k : ℕ) × (slice_get plan.events k ≡ Some (Section s))
  pub opened : (i : ℕ) → i < length plan.segments → (j : ℕ) × (k : ℕ) × (j < k) × (slice_get plan.events j ≡ Some (SegmentStart i))
      × (slice_get plan.events k ≡ Some (SegmentEnd i))

-- the first file is a prelude, and no other is
pub record IsLedByPrelude (groups : List (List InputFile)) : Type 0 where
  pub first : begins_with_prelude groups ≡ true
  pub only : (id : FileId) (f : InputFile) → file_in groups id ≡ Some f → is_prelude f.kind ≡ true → (id.group ≡ 0) × (id.file ≡ 0)

-- a link that meets each limit and keeps each rule
pub record IsWellFormed (link : LinkInput) : Type 0 where
  pub within : (what : Limited) → counted link what ≤ limit_of what
  pub options : is_good_options link.groups link.options ≡ true
  pub page : is_alignment link.plan.page ≡ true
  pub sections : list_all (is_good_section link.plan.sections) link.plan.sections ≡ true
  pub parts : HasGoodPartFields link
  pub singletons : has_good_singletons link ≡ true
  pub tls : count_by (λ s. is_tls s.kind) link.plan.segments ≤ 1
  pub events : IsEventOrder link.plan
  pub locations : list_any is_location link.plan.events ≡ true → has_script link.groups ≡ true
  pub expressions : HasGoodExpressions link
  pub prelude : IsLedByPrelude link.groups
  pub symbols : list_all (λ p. is_good_symbol link p.0 p.1) (file_symbols (all_files link.groups)) ≡ true
  pub inputs : list_all (λ files. list_all (has_good_inputs link.plan) files) link.groups ≡ true
  pub tables : list_all (λ files. list_all (has_file_tables link.plan.named) files) link.groups ≡ true
  pub candidates : list_all (λ files. list_all (has_good_candidates link) files) link.groups ≡ true
  pub given : list_all (λ files. list_all has_file_data files) link.groups ≡ true
