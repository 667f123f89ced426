-- Words of private contracts: in which file each symbol of the primary part is at home, by numbers.
use Rattle.std.specs.Prelude.{ℕ, suc, zero, if◌then◌else◌, List, Option, None, map, slice_get}
use Rattle.lk_link.specs.declared.ids.FileId.{FileId}
use Rattle.lk_link.specs.declared.link.LinkInput.{LinkInput}
use Rattle.lk_link.specs.declared.symbol.InputSymbol.{InputSymbol}
use Rattle.lk_link.specs.Inputs.{NumberedFile}
use Rattle.lk_link.specs.NumberedSymbols.{numbered_symbols}
use Rattle.lk_link.specs.Symbols.{file_number}
use Rattle.lk_live.specs.PrimaryMarks.{is_primary_symbol}

-- of a symbol of a file the number of the file over all groups, and one, if the symbol is in the primary part; else 0
abbrev pub home_number : LinkInput → NumberedFile → InputSymbol → ℕ
home_number link f x = if is_primary_symbol link f.file x then suc (file_number link.groups f.id) else 0

-- those of all symbols
abbrev pub home_numbers : LinkInput → List ℕ
home_numbers link = map (λ q. home_number link q.0 q.1) (numbered_symbols link.groups)

-- the range of the file with such a number
abbrev pub range_told : List (FileId × ℕ × ℕ) → ℕ → Option (FileId × ℕ × ℕ)
range_told ranges zero = None
range_told ranges (suc n) = slice_get ranges n
