-- The rule on symbols.
use Rattle.std.specs.Prelude.{◌≡◌, ℕ, ◌<◌, ◌≤◌, ◌==◌, ◌&&◌, ◌||◌, Bool, true, false, List, Option, Some, count_by, length, map, nat_le, nat_lt, slice_get}
use Rattle.std.specs.List.{flat_map}
use Rattle.std.specs.Option.{ForSome, option_map_or}
use Rattle.lk_link.specs.declared.file.FileKind.{FileKind}
use Rattle.lk_link.specs.declared.file.FileKind.TheVariants as kind
use Rattle.lk_link.specs.declared.file.InputFile.{InputFile}
use Rattle.lk_link.specs.declared.limits.TheConstants.{GIVEN_FLAG_SETS}
use Rattle.lk_link.specs.declared.link.LinkInput.{LinkInput}
use Rattle.lk_link.specs.declared.plan.Plan.{Plan}
use Rattle.lk_link.specs.declared.section.InputSection.{InputSection}
use Rattle.lk_link.specs.declared.symbol.InputSymbol.{InputSymbol}
use Rattle.lk_link.specs.declared.symbol.SymbolLoc.{SymbolLoc}
use Rattle.lk_link.specs.declared.symbol.SymbolLoc.TheVariants as loc
use Rattle.lk_link.specs.declared.symbol.SymbolPlacement.{SymbolPlacement}
use Rattle.lk_link.specs.declared.symbol.SymbolPlacement.TheVariants as at
use Rattle.lk_link.specs.InputSlots.{is_merge}
use Rattle.lk_link.specs.PartRules.{is_free_part, is_table_part}
use Rattle.lk_link.specs.Parts.{all_parts}
use Rattle.lk_link.specs.Rules.{is_location}
use Rattle.lk_link.specs.Symbols.{definition_of}

-- ---- what stands for a symbol

-- whether it is a symbol that stands for itself
abbrev pub is_definition : List (List InputFile) → ℕ → Bool
is_definition groups d = option_map_or (λ e. e == d) (definition_of groups d) false

-- what stands for a symbol, if anything else does, stands for itself
abbrev pub has_definition : List (List InputFile) → Option ℕ → Bool
has_definition groups def = option_map_or (is_definition groups) def true

-- ---- the placements of each kind of file

abbrev pub is_object_placement : SymbolPlacement → Bool
is_object_placement (at.Section i offset) = true
is_object_placement (at.Common p n) = true
is_object_placement (at.Absolute n) = true
is_object_placement at.Undef = true
is_object_placement _ = false

abbrev pub is_foreign_placement : SymbolPlacement → Bool
is_foreign_placement at.Dynamic = true
is_foreign_placement at.Undef = true
is_foreign_placement _ = false

abbrev pub is_internal_placement : SymbolPlacement → Bool
is_internal_placement at.Undefined = true
is_internal_placement at.ForceUndefined = true
is_internal_placement (at.SectionStart s) = true
is_internal_placement (at.SectionEnd s) = true
is_internal_placement (at.SectionGroupEnd s) = true
is_internal_placement at.TlsEnd = true
is_internal_placement at.LoadBaseAddress = true
is_internal_placement (at.Redirect e l provide) = true
is_internal_placement _ = false

-- whether files of this kind place symbols so
abbrev pub is_placement_in : FileKind → SymbolPlacement → Bool
is_placement_in kind.Object p = is_object_placement p
is_placement_in kind.Dynamic p = is_foreign_placement p
is_placement_in kind.NotLoaded p = is_foreign_placement p
is_placement_in kind.Prelude p = is_internal_placement p
is_placement_in kind.SyntheticSymbols p = is_internal_placement p
is_placement_in kind.LinkerScript p = is_internal_placement p

-- ---- what placements name

-- whether there is such a section, and such an offset in it; of a merge section any offset is good
abbrev pub is_offset_in : List InputSection → ℕ → ℕ → Bool
is_offset_in sections i offset = option_map_or (λ s. is_merge s.slot || nat_le offset s.size) (slice_get sections i) false

-- how many events move the location counter
abbrev pub location_count : Plan → ℕ
location_count plan = count_by is_location plan.events

abbrev pub is_loc_there : Plan → SymbolLoc → Bool
is_loc_there plan loc.None = true
is_loc_there plan (loc.SectionStart s) = nat_lt s (length plan.sections)
is_loc_there plan (loc.SectionEnd s) = nat_lt s (length plan.sections)
is_loc_there plan (loc.Counter n) = nat_le n (location_count plan)

-- whether what a placement names is there, in a file with these sections
abbrev pub is_placement_there : Plan → List InputSection → SymbolPlacement → Bool
is_placement_there plan sections (at.Section i offset) = is_offset_in sections i offset
is_placement_there plan sections (at.Common p n) = is_free_part plan p
is_placement_there plan sections (at.SectionStart s) = nat_lt s (length plan.sections)
is_placement_there plan sections (at.SectionEnd s) = nat_lt s (length plan.sections)
is_placement_there plan sections (at.SectionGroupEnd s) = nat_lt s (length plan.sections)
is_placement_there plan sections (at.Redirect e l provide) = is_loc_there plan l
is_placement_there plan sections _ = true

-- ---- all symbols

-- what stands for a symbol stands for itself; its flags are among those that can be given; files of its kind have such placements, and what
-- its placement names is there
abbrev pub is_good_symbol : LinkInput → InputFile → InputSymbol → Bool
is_good_symbol link f s = has_definition link.groups s.def && nat_lt s.flags.0 GIVEN_FLAG_SETS
    && is_placement_in f.kind s.at && is_placement_there link.plan f.sections s.at

-- the symbols of files, in order, each with its file
abbrev pub file_symbols : List InputFile → List (InputFile × InputSymbol)
file_symbols files = flat_map (λ f. map (λ s. (f, s)) f.symbols) files

-- ---- a good symbol, taken apart

abbrev pub IsLocThere : Plan → SymbolLoc → Type 0
IsLocThere plan loc.None = Unit {0}
IsLocThere plan (loc.SectionStart s) = s < length plan.sections
IsLocThere plan (loc.SectionEnd s) = s < length plan.sections
IsLocThere plan (loc.Counter n) = n ≤ location_count plan

-- what a placement names is there, in a file with these sections
abbrev pub IsPlacementThere : Plan → List InputSection → SymbolPlacement → Type 0
IsPlacementThere plan sections (at.Section i offset) = (s : InputSection) × (slice_get sections i ≡ Some s)
    × (is_merge s.slot ≡ false → offset ≤ s.size)
IsPlacementThere plan sections (at.Common p n) = (p < length (all_parts plan.sections)) × (is_table_part plan.named p ≡ false)
IsPlacementThere plan sections (at.SectionStart s) = s < length plan.sections
IsPlacementThere plan sections (at.SectionEnd s) = s < length plan.sections
IsPlacementThere plan sections (at.SectionGroupEnd s) = s < length plan.sections
IsPlacementThere plan sections (at.Redirect e l provide) = IsLocThere plan l
IsPlacementThere plan sections (at.Absolute n) = Unit {0}
IsPlacementThere plan sections at.Undef = Unit {0}
IsPlacementThere plan sections at.Dynamic = Unit {0}
IsPlacementThere plan sections at.Undefined = Unit {0}
IsPlacementThere plan sections at.ForceUndefined = Unit {0}
IsPlacementThere plan sections at.TlsEnd = Unit {0}
IsPlacementThere plan sections at.LoadBaseAddress = Unit {0}

pub record IsGoodSymbol (link : LinkInput) (f : InputFile) (s : InputSymbol) : Type 0 where
  pub defined : ForSome s.def (λ d. definition_of link.groups d ≡ Some d)
  pub few_flags : s.flags.0 < GIVEN_FLAG_SETS
  pub of_kind : is_placement_in f.kind s.at ≡ true
  pub there : IsPlacementThere link.plan f.sections s.at
