-- What references are worth.
use Rattle.std.specs.Prelude.{ℕ, ℤ, List, [], None, Option, Some, Result, Ok, Err, false}
use Rattle.std.specs.Option.{option_map_or}
use Rattle.lk_link.specs.declared.ids.FileId.{FileId}
use Rattle.lk_link.specs.declared.link.LinkInput.{LinkInput}
use Rattle.lk_link.specs.declared.relocation.Relocation.{Relocation}
use Rattle.lk_link.specs.declared.symbol.InputSymbol.{InputSymbol}
use Rattle.lk_link.specs.Files.{file_in}
use Rattle.lk_link.specs.Symbols.{first_symbol}
use Rattle.lk_reach.specs.Units.{local_definition}
use Rattle.lk_merge.specs.Addresses.{image_start}
use Rattle.lk_merge.specs.declared.output_address.OffsetPastEnd.{OffsetPastEnd}
use Rattle.lk_merge.specs.OutputAddresses.{merged_address, plus_addend}
use Rattle.lk_resolution_list.specs.Lists.{resolution_at}
use Rattle.lk_layout.specs.LayoutRecord.{LayoutRecord}

-- the value of a symbol and an addend; a symbol without a resolution has the value 0
abbrev pub resolved_value : LayoutRecord → ℕ → ℤ → ℕ
resolved_value layout s addend = plus_addend (option_map_or (λ r. r.raw_value) (resolution_at layout.symbol_resolutions s) 0) addend

-- an address in merged data, else this value; a reference from a live section to merged data has an address
abbrev pub merged_or : ℕ → Result (Option ℕ) OffsetPastEnd → ℕ
merged_or value (Ok (Some address)) = address
merged_or value (Ok None) = value
merged_or value (Err e) = 0

-- what a reference to the symbol with a number, with an addend, is worth: its address in merged data, if it stands there, else its value
-- and the addend
unfoldable pub reference_value : LinkInput → LayoutRecord → ℕ → ℤ → ℕ
reference_value link layout s addend =
    merged_or (resolved_value layout s addend) (merged_address link (image_start layout.merged_string_start_addresses) s addend false)

-- that of a relocation of a file with these symbols, the first of which has this number, by what stands for its symbol
abbrev pub value_in : LinkInput → LayoutRecord → ℕ → List InputSymbol → Relocation → ℕ
value_in link layout first symbols r = reference_value link layout (local_definition first symbols r.symbol) r.addend

-- that of a relocation of the file with this number
abbrev pub relocation_value : LinkInput → LayoutRecord → FileId → Relocation → ℕ
relocation_value link layout id r = value_in link layout (first_symbol link.groups id) (option_map_or (λ f. f.symbols) (file_in link.groups id) []) r
