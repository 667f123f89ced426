-- What holds of the symbols of a well-formed link.
use Rattle.std.specs.Prelude.{◌≡◌, ℕ, Some, slice_get}
use Rattle.lk_link.specs.declared.file.InputFile.{InputFile}
use Rattle.lk_link.specs.declared.ids.FileId.{FileId}
use Rattle.lk_link.specs.declared.link.LinkInput.{LinkInput}
use Rattle.lk_link.specs.declared.symbol.InputSymbol.{InputSymbol}
use Rattle.lk_link.specs.Files.{file_in}
use Rattle.lk_link.specs.SymbolRules.{file_symbols, IsGoodSymbol}
use Rattle.lk_link.specs.Symbols.{all_files, symbol_at, definition_of}
use Rattle.lk_link.specs.WellFormed.{IsWellFormed}

-- the symbols of a well-formed link are good
abbrev pub SymbolsAreGood : Type 0
SymbolsAreGood = (link : LinkInput) (id : FileId) (i : ℕ) (file : InputFile) (symbol : InputSymbol) → IsWellFormed link
    → file_in link.groups id ≡ Some file → slice_get file.symbols i ≡ Some symbol → IsGoodSymbol link file symbol

-- so is the symbol with a number
abbrev pub NumberedSymbolsAreGood : Type 0
NumberedSymbolsAreGood = (link : LinkInput) (s : ℕ) (symbol : InputSymbol) → IsWellFormed link → symbol_at link.groups s ≡ Some symbol
    → (f : InputFile) × (slice_get (file_symbols (all_files link.groups)) s ≡ Some (f, symbol)) × IsGoodSymbol link f symbol

-- what stands for a symbol stands for itself
abbrev pub DefinitionsStandForThemselves : Type 0
DefinitionsStandForThemselves = (link : LinkInput) (s d : ℕ) → IsWellFormed link → definition_of link.groups s ≡ Some d
    → definition_of link.groups d ≡ Some d
