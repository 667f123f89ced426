-- The symbols of a link by their numbers, each with its file.
use Rattle.std.specs.Prelude.{◌≡◌, ℕ, ◌+◌, List, Option, map, option_and_then, option_map, slice_get}
use Rattle.std.specs.List.{flat_map}
use Rattle.lk_link.specs.declared.file.InputFile.{InputFile}
use Rattle.lk_link.specs.declared.groups.SymbolRef.{SymbolRef}
use Rattle.lk_link.specs.declared.ids.FileId.{FileId}
use Rattle.lk_link.specs.declared.symbol.InputSymbol.{InputSymbol}
use Rattle.lk_link.specs.Inputs.{NumberedFile, numbered_files}
use Rattle.lk_link.specs.Symbols.{IsSymbolIn, definition_of, first_symbol}
use Rattle.lk_link.specs.Walks.{file_of}

-- the symbols of a file, each with the file
abbrev pub symbols_of : NumberedFile → List (NumberedFile × InputSymbol)
symbols_of f = map (λ s. (f, s)) f.file.symbols

-- all symbols, by their numbers
abbrev pub numbered_symbols : List (List InputFile) → List (NumberedFile × InputSymbol)
numbered_symbols groups = flat_map symbols_of (numbered_files groups)

-- the symbol with this number, with its file
abbrev pub numbered_symbol : List (List InputFile) → ℕ → Option (NumberedFile × InputSymbol)
numbered_symbol groups s = slice_get (numbered_symbols groups) s

-- a symbol with its number and its file, as contracts see it
abbrev pub symbol_of : SymbolRef → ℕ × NumberedFile × InputSymbol
symbol_of r = (r.number, file_of r.file, r.symbol.now)

-- the symbol with this number, with its number and its file
abbrev pub known_symbol : List (List InputFile) → ℕ → Option (ℕ × NumberedFile × InputSymbol)
known_symbol groups s = option_map (λ q. (s, q.0, q.1)) (numbered_symbol groups s)

-- what stands for the symbol with this number, with its number and its file
abbrev pub known_definition : List (List InputFile) → ℕ → Option (ℕ × NumberedFile × InputSymbol)
known_definition groups s = option_and_then (known_symbol groups) (definition_of groups s)

-- the symbol with this number is the one of this file with this index
pub record IsSymbolAt (groups : List (List InputFile)) (id : FileId) (index s : ℕ) : Type 0 where
  pub inside : IsSymbolIn groups id s
  pub place : first_symbol groups id + index ≡ s
