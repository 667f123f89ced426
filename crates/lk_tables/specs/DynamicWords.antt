-- What the code goes by where it makes the dynamic symbol table. Contracts of private functions speak of these.
use Rattle.std.specs.Prelude.{ℕ, Bool, if◌then◌else◌, List, filter, map}
use Rattle.lk_link.specs.declared.link.LinkInput.{LinkInput}
use Rattle.lk_link.specs.declared.symbol.InputSymbol.{InputSymbol}
use Rattle.lk_link.specs.Inputs.{NumberedFile}
use Rattle.lk_live.specs.declared.live.Live.{Live}
use Rattle.lk_tables.specs.Dynamic.{is_dynamic_symbol, is_export}
use Rattle.lk_tables.specs.SymbolTable.{symbols_by_number}

-- whether a symbol of a file has an entry among the exports, or among the dynamic symbols
abbrev pub has_entry : Bool → LinkInput → Live → List Bool → NumberedFile → ℕ × InputSymbol → Bool
has_entry exported link live told f q = if exported then is_export live f q else is_dynamic_symbol link live told f q

-- the numbers of those of some symbols of a file
abbrev pub numbers_of : Bool → LinkInput → Live → List Bool → NumberedFile → List (ℕ × InputSymbol) → List ℕ
numbers_of exported link live told f symbols = map (λ q. q.0) (filter (has_entry exported link live told f) symbols)

-- those of all symbols of a file
abbrev pub file_numbers : Bool → LinkInput → Live → List Bool → NumberedFile → List ℕ
file_numbers exported link live told f = numbers_of exported link live told f (symbols_by_number link f)
