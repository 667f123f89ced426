-- Where symbols are placed.
use Rattle.std.specs.Prelude.{ℕ, Bool, false, not, List}
use Rattle.std.specs.Option.{option_map_or}
use Rattle.lk_link.specs.declared.file.InputFile.{InputFile}
use Rattle.lk_link.specs.SymbolPlacements.{is_undefined}
use Rattle.lk_link.specs.Symbols.{symbol_at}
pub use Rattle.lk_link.specs.SymbolPlacements.{edge_of}

-- whether the symbol with this number is there and defined
abbrev pub is_defined : List (List InputFile) → ℕ → Bool
is_defined groups d = option_map_or (λ x. not (is_undefined x.at)) (symbol_at groups d) false
