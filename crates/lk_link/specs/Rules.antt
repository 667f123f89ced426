-- The rules that options, the plan and the order of files keep.
use Rattle.std.specs.Prelude.{◌≡◌, ℕ, ◌<◌, ◌≤◌, ◌==◌, ◌&&◌, ◌||◌, ◌⊎◌, Bool, true, false, List, [], ◌∷◌, Option, Some, None, length, nat_le, nat_lt, slice_get, is_none, is_some}
use Rattle.std.specs.List.{list_all, list_any}
use Rattle.std.specs.Option.{ForSome, option_map_or}
use Rattle.lk_link.specs.declared.file.InputFile.{InputFile}
use Rattle.lk_link.specs.declared.limits.TheConstants.{ATTRIBUTE_SETS, MOST_NEAR_BRANCH, MOST_BUCKET, MOST_MERGE_GROUP}
use Rattle.lk_link.specs.declared.link.LinkInput.{LinkInput}
use Rattle.lk_link.specs.declared.options.Options.{Options}
use Rattle.lk_link.specs.declared.plan.PlanPart.{PlanPart}
use Rattle.lk_link.specs.declared.plan.PlanSection.{PlanSection}
use Rattle.lk_link.specs.declared.plan.OrderEvent.{OrderEvent}
use Rattle.lk_link.specs.declared.plan.OrderEvent.TheVariants.{SegmentStart, SegmentEnd, Section, SetLocation, SetLocationRelative}
use Rattle.lk_link.specs.declared.symbol.InputSymbol.{InputSymbol}
use Rattle.lk_link.specs.Alignments.{is_alignment}
use Rattle.lk_link.specs.FileKinds.{is_prelude, is_script}
use Rattle.lk_link.specs.OutputKinds.{is_partial}
use Rattle.lk_link.specs.Symbols.{symbol_at}

-- ---- options

-- no branch is limited, or all reach further than 2 MiB
abbrev pub is_branch_range : ℕ → Bool
is_branch_range n = (n == 0) || nat_lt MOST_NEAR_BRANCH n

-- the entry, if there is one, is a symbol
abbrev pub has_entry : List (List InputFile) → Option ℕ → Bool
has_entry groups entry = option_map_or (λ s. is_some (symbol_at groups s)) entry true

-- numbers are in their ranges, and the entry is a symbol
abbrev pub is_good_options : List (List InputFile) → Options → Bool
is_good_options groups o = is_branch_range o.branch_range && nat_le o.bucket_limit MOST_BUCKET
    && nat_le 1 o.merge_group && nat_le o.merge_group MOST_MERGE_GROUP && has_entry groups o.entry

-- good options, taken apart
pub record AreGoodOptions (groups : List (List InputFile)) (o : Options) : Type 0 where
  pub branch_range : (o.branch_range ≡ 0) ⊎ (MOST_NEAR_BRANCH < o.branch_range)
  pub bucket_limit : o.bucket_limit ≤ MOST_BUCKET
  pub merge_group_least : 1 ≤ o.merge_group
  pub merge_group_most : o.merge_group ≤ MOST_MERGE_GROUP
  pub entry : ForSome o.entry (λ s. (x : InputSymbol) × (symbol_at groups s ≡ Some x))

-- ---- output sections

-- alignments fall strictly
unfoldable pub falls : List PlanPart → Bool
falls [] = true
falls (p ∷ []) = true
falls (p ∷ q ∷ ps) = nat_lt q.alignment p.alignment && falls (q ∷ ps)

-- whether it is a section that isn't secondary
abbrev pub is_primary : List PlanSection → ℕ → Bool
is_primary sections s = option_map_or (λ q. is_none q.primary) (slice_get sections s) false

-- what a section is secondary to, if it is, is a section that isn't; so it is another one
abbrev pub has_primary : List PlanSection → PlanSection → Bool
has_primary sections s = option_map_or (is_primary sections) s.primary true

-- a section has a part, alignments are powers of two up to 65,536, those of parts fall, attributes are among those that there are, and
-- it is secondary only to a section that isn't
abbrev pub is_good_section : List PlanSection → PlanSection → Bool
is_good_section sections s = nat_lt 0 (length s.parts) && is_alignment s.align && list_all (λ p. is_alignment p.alignment) s.parts
    && falls s.parts && nat_lt s.attrs ATTRIBUTE_SETS && has_primary sections s

-- a section that isn't secondary
abbrev pub IsPrimary : List PlanSection → ℕ → Type 0
IsPrimary sections p = (q : PlanSection) × (slice_get sections p ≡ Some q) × (q.primary ≡ None)

-- a good section, taken apart
pub record IsGoodSection (sections : List PlanSection) (s : PlanSection) : Type 0 where
  pub has_part : 0 < length s.parts
  pub aligned_self : is_alignment s.align ≡ true
  pub aligned : list_all (λ p. is_alignment p.alignment) s.parts ≡ true
  pub falling : falls s.parts ≡ true
  pub few_attrs : s.attrs < ATTRIBUTE_SETS
  pub primary : ForSome s.primary (IsPrimary sections)

-- ---- singletons

-- the section whose input sections stay output sections of their own, if there is one, is one of the plan's, and the output is partial
abbrev pub has_good_singletons : LinkInput → Bool
has_good_singletons link =
    option_map_or (λ s. nat_lt s (length link.plan.sections) && is_partial link.options.output) link.plan.singletons true

-- ---- events

-- whether it is this event
abbrev pub is_section : ℕ → OrderEvent → Bool
is_section s (Section t) = t == s
is_section s _ = false

abbrev pub is_start : ℕ → OrderEvent → Bool
is_start i (SegmentStart j) = j == i
is_start i _ = false

abbrev pub is_end : ℕ → OrderEvent → Bool
is_end i (SegmentEnd j) = j == i
is_end i _ = false

-- whether it sets the location counter
abbrev pub is_location : OrderEvent → Bool
is_location (SetLocation e) = true
is_location (SetLocationRelative e s) = true
is_location _ = false

-- whether it moves what comes next: it sets the location counter, or gives the next section an address
abbrev pub moves_location : OrderEvent → Bool
moves_location (SegmentStart i) = false
moves_location (SegmentEnd i) = false
moves_location (Section s) = false
moves_location _ = true

-- whether a file is a script
abbrev pub has_script : List (List InputFile) → Bool
has_script groups = list_any (λ files. list_any (λ f. is_script f.kind) files) groups

-- ---- files

-- whether the first file of the first group is the prelude
abbrev pub begins_with_prelude : List (List InputFile) → Bool
begins_with_prelude [] = false
begins_with_prelude ([] ∷ groups) = false
begins_with_prelude ((f ∷ files) ∷ groups) = is_prelude f.kind
