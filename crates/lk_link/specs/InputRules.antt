-- The rule on input sections.
use Rattle.std.specs.Prelude.{◌≡◌, ℕ, ◌+◌, ◌<◌, ◌≤◌, ◌==◌, ◌&&◌, ◌||◌, not, Bool, true, false, List, [], ◌∷◌, Some, length, nat_le, nat_lt, slice_get}
use Rattle.std.specs.List.{list_all, list_any}
use Rattle.std.specs.Option.{option_map_or}
use Rattle.lk_link.specs.declared.file.InputFile.{InputFile}
use Rattle.lk_link.specs.declared.plan.Plan.{Plan}
use Rattle.lk_link.specs.declared.plan.PlanPart.{PlanPart}
use Rattle.lk_link.specs.declared.plan.attributes.TheConstants.{WRITE, EXEC}
use Rattle.lk_link.specs.declared.relocation.Relocation.{Relocation}
use Rattle.lk_link.specs.declared.relocation.RelaxCandidate.{RelaxCandidate}
use Rattle.lk_link.specs.declared.section.InputSection.{InputSection}
use Rattle.lk_link.specs.InputSlots.{is_discarded, is_merge, is_regular}
use Rattle.lk_link.specs.PartRules.{is_free_part, is_singleton_part, is_table_part}
use Rattle.lk_link.specs.Parts.{all_parts}

-- ---- the part

-- a section goes to one of so many parts
abbrev pub goes_to_part : ℕ → InputSection → Bool
goes_to_part parts s = nat_lt s.part parts

-- a merge section goes to a part of alignment 1, and a sorted one is plain and goes to no packed part
abbrev pub fits_part : InputSection → PlanPart → Bool
fits_part s p = (not (is_merge s.slot) || (p.alignment == 1)) && (not s.sorted || (is_regular s.slot && not p.packed))

-- what stays an output section of its own is plain, and isn't sorted
abbrev pub is_good_singleton : Plan → InputSection → Bool
is_good_singleton plan s = not (is_singleton_part plan s.part) || (is_regular s.slot && not s.sorted)

-- the part is one of the plan's and no table part, and fits
abbrev pub has_good_part : Plan → InputSection → Bool
has_good_part plan s = is_free_part plan s.part && option_map_or (fits_part s) (slice_get (all_parts plan.sections) s.part) false
    && is_good_singleton plan s

-- ---- what a section holds

-- none, WRITE, EXEC, or both
abbrev pub are_input_attrs : ℕ → Bool
are_input_attrs attrs = list_any (λ a. attrs == a) (0 ∷ WRITE ∷ EXEC ∷ (WRITE + EXEC) ∷ [])

-- a relocation stands inside, and names one of the file's symbols
abbrev pub is_good_reloc : ℕ → ℕ → Relocation → Bool
is_good_reloc size symbols r = nat_lt r.offset size && nat_lt r.symbol symbols

-- a relaxation takes a byte or more, all inside, and names one of the file's symbols
abbrev pub is_good_relax : ℕ → ℕ → RelaxCandidate → Bool
is_good_relax size symbols r = nat_le 1 r.del && nat_le (r.at + r.del) size && nat_lt r.symbol symbols

-- each begins where the one before ends, or later
unfoldable pub rise : List RelaxCandidate → Bool
rise [] = true
rise (r ∷ []) = true
rise (r ∷ q ∷ rs) = nat_le (r.at + r.del) q.at && rise (q ∷ rs)

-- attributes are among those for writing and code, and relocations and relaxations are good, in a file of so many symbols
abbrev pub has_good_content : ℕ → InputSection → Bool
has_good_content symbols s = are_input_attrs s.attrs && list_all (is_good_reloc s.size symbols) s.relocs
    && list_all (is_good_relax s.size symbols) s.relax && rise s.relax

-- ---- all sections

-- a section is discarded, or its part is good and so is what it holds
abbrev pub is_good_input : Plan → ℕ → InputSection → Bool
is_good_input plan symbols s = is_discarded s.slot || (has_good_part plan s && has_good_content symbols s)

-- each section of a file is good
abbrev pub has_good_inputs : Plan → InputFile → Bool
has_good_inputs plan f = list_all (is_good_input plan (length f.symbols)) f.sections

-- a good section, taken apart: one that isn't discarded, in a file of so many symbols
pub record IsGoodInput (plan : Plan) (symbols : ℕ) (s : InputSection) : Type 0 where
  pub to_part : s.part < length (all_parts plan.sections)
  pub to_no_table : is_table_part plan.named s.part ≡ false
  pub merged : (p : PlanPart) → slice_get (all_parts plan.sections) s.part ≡ Some p → is_merge s.slot ≡ true → p.alignment ≡ 1
  pub sorts : (p : PlanPart) → slice_get (all_parts plan.sections) s.part ≡ Some p → s.sorted ≡ true → (is_regular s.slot ≡ true)
      × (p.packed ≡ false)
  pub singles : is_singleton_part plan s.part ≡ true → (is_regular s.slot ≡ true) × (s.sorted ≡ false)
  pub few_attrs : are_input_attrs s.attrs ≡ true
  pub in_relocs : (k : ℕ) (r : Relocation) → slice_get s.relocs k ≡ Some r → (r.offset < s.size) × (r.symbol < symbols)
  pub in_relax : (k : ℕ) (r : RelaxCandidate) → slice_get s.relax k ≡ Some r → (1 ≤ r.del) × (r.at + r.del ≤ s.size) × (r.symbol < symbols)
  pub apart : (j k : ℕ) (q r : RelaxCandidate) → j < k → slice_get s.relax j ≡ Some q → slice_get s.relax k ≡ Some r → q.at + q.del ≤ r.at
