-- What holds of a well-formed link: its options, its plan, and how much it has.
use Rattle.std.specs.Prelude.{◌≡◌, ◌≢◌, ℕ, ◌+◌, ◌<◌, ◌≤◌, true, Some, length, slice_get}
use Rattle.lk_link.specs.declared.alignment.TheConstants.{GREATEST_ALIGNMENT}
use Rattle.lk_link.specs.declared.link.LinkInput.{LinkInput}
use Rattle.lk_link.specs.declared.plan.OrderEvent.{OrderEvent}
use Rattle.lk_link.specs.declared.plan.PlanPart.{PlanPart}
use Rattle.lk_link.specs.declared.plan.PlanSection.{PlanSection}
use Rattle.lk_link.specs.Alignments.{is_alignment}
use Rattle.lk_link.specs.ExpressionRules.{AreGoodExpressions}
use Rattle.lk_link.specs.Limits.{AreFew}
use Rattle.lk_link.specs.OutputKinds.{is_partial}
use Rattle.lk_link.specs.PartFieldRules.{AreGoodPartFields}
use Rattle.lk_link.specs.Parts.{all_parts, first_part}
use Rattle.lk_link.specs.Rules.{AreGoodOptions, IsPrimary, IsGoodSection}
use Rattle.lk_link.specs.WellFormed.{IsInRange, IsAboutPlace, IsWellFormed}

-- the options of a well-formed link are good: numbers are in their ranges, and the entry is a symbol
abbrev pub OptionsAreGood : Type 0
OptionsAreGood = (link : LinkInput) → IsWellFormed link → AreGoodOptions link.groups link.options

-- the parts of a well-formed link have alignments, between 1 and 65,536
abbrev pub PartsAreAligned : Type 0
PartsAreAligned = (link : LinkInput) (p : ℕ) (part : PlanPart) → IsWellFormed link
    → slice_get (all_parts link.plan.sections) p ≡ Some part → (is_alignment part.alignment ≡ true) × (0 < part.alignment)
    × (part.alignment ≤ GREATEST_ALIGNMENT)

-- its sections are good, and their parts stand among all parts
abbrev pub SectionsAreGood : Type 0
SectionsAreGood = (link : LinkInput) (s : ℕ) (section : PlanSection) → IsWellFormed link → slice_get link.plan.sections s ≡ Some section
    → IsGoodSection link.plan.sections section
    × (first_part link.plan.sections s + length section.parts ≤ length (all_parts link.plan.sections))

-- its secondary sections are so to others, which aren't
abbrev pub PrimariesAreOthers : Type 0
PrimariesAreOthers = (link : LinkInput) (s p : ℕ) (section : PlanSection) → IsWellFormed link
    → slice_get link.plan.sections s ≡ Some section → section.primary ≡ Some p → (p ≢ s) × IsPrimary link.plan.sections p

-- the parts that its plan names are good: they are there, and table parts are no others
abbrev pub PartFieldsAreGood : Type 0
PartFieldsAreGood = (link : LinkInput) → IsWellFormed link → AreGoodPartFields link

-- the section of singletons of a link is one of its plan's, and the link's output is partial
abbrev pub SingletonsAreGood : Type 0
SingletonsAreGood = (link : LinkInput) (s : ℕ) → IsWellFormed link → link.plan.singletons ≡ Some s
    → (s < length link.plan.sections) × (is_partial link.options.output ≡ true)

-- its events name what is there, each of them once
abbrev pub EventsStandOnce : Type 0
EventsStandOnce = (link : LinkInput) (j k : ℕ) (e : OrderEvent) → IsWellFormed link → slice_get link.plan.events j ≡ Some e
    → slice_get link.plan.events k ≡ Some e → IsInRange link.plan e × (IsAboutPlace e → j ≡ k)

-- its expressions are good: what they name is there, and they aren't too deep
abbrev pub ExpressionsAreGood : Type 0
ExpressionsAreGood = (link : LinkInput) → IsWellFormed link → AreGoodExpressions link

-- its lists are within the limits
abbrev pub ListsAreFew : Type 0
ListsAreFew = (link : LinkInput) → IsWellFormed link → AreFew link
