-- Words of private contracts: which symbols of the primary part are named elsewhere, by marks of symbols.
use Rattle.std.specs.Prelude.{◌≡◌, ℕ, ◌==◌, ◌&&◌, not, Bool, false, List, Some, map, slice_get}
use Rattle.std.specs.List.{list_any}
use Rattle.std.specs.Option.{option_map_or}
use Rattle.lk_link.specs.declared.file.InputFile.{InputFile}
use Rattle.lk_link.specs.declared.link.LinkInput.{LinkInput}
use Rattle.lk_link.specs.declared.relocation.Relocation.{Relocation}
use Rattle.lk_link.specs.declared.symbol.InputSymbol.{InputSymbol}
use Rattle.lk_link.specs.Files.{file_in}
use Rattle.lk_link.specs.Inputs.{Input}
use Rattle.lk_link.specs.InputSlots.{is_regular}
use Rattle.lk_link.specs.Marks.{is_marked}
use Rattle.lk_link.specs.NumberedSymbols.{numbered_symbols}
use Rattle.lk_link.specs.Symbols.{first_symbol}
use Rattle.lk_link.specs.SymbolPlacements.{section_of}
use Rattle.lk_reach.specs.Units.{is_primary_section, local_definition}

-- whether a symbol of a file stands in a section of the primary part
abbrev pub is_primary_symbol : LinkInput → InputFile → InputSymbol → Bool
is_primary_symbol link f x =
    option_map_or (λ i. option_map_or (is_primary_section link) (slice_get f.sections i) false) (section_of x.at) false

-- the same for each symbol
abbrev pub primary_symbols : LinkInput → List Bool
primary_symbols link = map (λ q. is_primary_symbol link q.0.file q.1) (numbered_symbols link.groups)

-- whether a relocation names this symbol, which is among those with a mark, and a thunk may stand in
abbrev pub names_symbol : List Bool → ℕ → List InputSymbol → ℕ → Relocation → Bool
names_symbol primary first symbols s r =
    r.thunkable && is_marked primary (local_definition first symbols r.symbol) && local_definition first symbols r.symbol == s

-- whether a section that is loaded for what it holds, in another part, names this symbol of the primary part so
abbrev pub names_primary : LinkInput → List Bool → ℕ → Input → Bool
names_primary link primary s x =
    is_regular x.section.slot && not (is_primary_section link x.section)
    && option_map_or (λ f. list_any (names_symbol primary (first_symbol link.groups x.file) f.symbols s) x.section.relocs)
    (file_in link.groups x.file) false

-- an input section is one of the link's
pub record IsInputOf (link : LinkInput) (x : Input) : Type 0 where
  pub file : InputFile
  pub there : file_in link.groups x.file ≡ Some file
  pub section : slice_get file.sections x.index ≡ Some x.section
