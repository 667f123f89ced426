-- The commons that take bytes of parts: those that get a resolution.
use Rattle.std.specs.Prelude.{ℕ, if◌then◌else◌, List, Option, Some, None}
use Rattle.std.specs.List.{enumerate_from, filter_map, flat_map}
use Rattle.lk_link.specs.declared.file.FileKind.{FileKind}
use Rattle.lk_link.specs.declared.link.LinkInput.{LinkInput}
use Rattle.lk_link.specs.declared.symbol.InputSymbol.{InputSymbol}
use Rattle.lk_link.specs.declared.symbol.SymbolPlacement.{SymbolPlacement}
use Rattle.lk_link.specs.declared.symbol.SymbolPlacement.TheVariants as at
use Rattle.lk_link.specs.Inputs.{NumberedFile, numbered_files}
use Rattle.lk_link.specs.Symbols.{first_symbol, is_wanted}
use Rattle.lk_live.specs.declared.live.Live.{Live}
use Rattle.lk_tables.specs.declared.commons.Common.{Common}
use Rattle.lk_tables.specs.Late.{flags_at}

-- a symbol with its number and this placement as a common, if it is one
abbrev pub common_at : ℕ → SymbolPlacement → Option Common
common_at s (at.Common p size) = Some (record { symbol = s; part = p; size = size })
common_at s _ = None

-- a symbol of a file of a kind, with its number, as a common that takes bytes: one that gets a resolution
abbrev pub common_of : Live → FileKind → ℕ × InputSymbol → Option Common
common_of live kind q = if is_wanted kind q.0 q.1 (flags_at live.flags q.0) then common_at q.0 q.1.at else None

-- the commons of a file that take bytes, by index
abbrev pub commons_of : LinkInput → Live → NumberedFile → List Common
commons_of link live f = filter_map (common_of live f.file.kind) (enumerate_from (first_symbol link.groups f.id) f.file.symbols)

-- those of all files
abbrev pub all_commons : LinkInput → Live → List Common
all_commons link live = flat_map (commons_of link live) (numbered_files link.groups)
