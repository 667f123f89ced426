-- Which symbols of the primary part other parts name, where a thunk may stand in.
use Rattle.std.specs.Prelude.{◌≡◌, ◌↔◌, ℕ, ◌<◌, Bool, true, false, List, Contains, Some, length, slice_get}
use Rattle.lk_link.specs.declared.file.InputFile.{InputFile}
use Rattle.lk_link.specs.declared.link.LinkInput.{LinkInput}
use Rattle.lk_link.specs.declared.relocation.Relocation.{Relocation}
use Rattle.lk_link.specs.declared.section.InputSection.{InputSection}
use Rattle.lk_link.specs.declared.symbol.InputSymbol.{InputSymbol}
use Rattle.lk_link.specs.Files.{file_in}
use Rattle.lk_link.specs.Inputs.{Input, NumberedFile}
use Rattle.lk_link.specs.InputSlots.{is_regular}
use Rattle.lk_link.specs.Marks.{is_marked}
use Rattle.lk_link.specs.NumberedSymbols.{numbered_symbols}
use Rattle.lk_link.specs.Symbols.{all_symbols, first_symbol}
use Rattle.lk_live.specs.declared.live.Live.{Live}
use Rattle.lk_live.specs.Reach.{live_inputs}
use Rattle.lk_link.specs.SymbolPlacements.{section_of}
use Rattle.lk_reach.specs.Units.{is_primary_section, local_definition}

-- a symbol, by its number, stands in a section of the primary part
pub record IsInPrimaryPart (link : LinkInput) (s : ℕ) : Type 0 where
  pub file : NumberedFile
  pub symbol : InputSymbol
  pub there : slice_get (numbered_symbols link.groups) s ≡ Some (file, symbol)
  pub index : ℕ
  pub placed : section_of symbol.at ≡ Some index
  pub section : InputSection
  pub at : slice_get file.file.sections index ≡ Some section
  pub primary : is_primary_section link section ≡ true

-- a live section of another part, which is loaded for what it holds, has a relocation for it in which a thunk may stand in
pub record IsNamedElsewhere (link : LinkInput) (live : Live) (s : ℕ) : Type 0 where
  pub input : Input
  pub kept : Contains (live_inputs link live) input
  pub regular : is_regular input.section.slot ≡ true
  pub elsewhere : is_primary_section link input.section ≡ false
  pub file : InputFile
  pub there : file_in link.groups input.file ≡ Some file
  pub relocation : Relocation
  pub among : Contains input.section.relocs relocation
  pub thunkable : relocation.thunkable ≡ true
  pub names : local_definition (first_symbol link.groups input.file) file.symbols relocation.symbol ≡ s

-- a mark for each symbol, set exactly where it stands in the primary part and a live section of another part names it so
-- (libwild: `non_primary_referenced_symbols`)
pub record ArePrimaryReferences (link : LinkInput) (live : Live) (marks : List Bool) : Type 0 where
  pub count : length marks ≡ length (all_symbols link.groups)
  pub each : (s : ℕ) → s < length marks → (is_marked marks s ≡ true) ↔ (IsInPrimaryPart link s × IsNamedElsewhere link live s)
