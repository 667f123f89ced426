-- The entries of symbols: their addresses in got and plt, and their numbers in the dynamic symbol table.
use Rattle.std.specs.Prelude.{ℕ, Bool, List, Option, option_and_then, slice_index}
use Rattle.std.specs.List.{flat_map}
use Rattle.lk_link.specs.declared.file.FileKind.{FileKind}
use Rattle.lk_link.specs.declared.flags.ValueFlags.{ValueFlags}
use Rattle.lk_link.specs.declared.link.LinkInput.{LinkInput}
use Rattle.lk_link.specs.declared.resolution.Resolution.{Resolution}
use Rattle.lk_link.specs.declared.symbol.InputSymbol.{InputSymbol}
use Rattle.lk_link.specs.Inputs.{numbered_files}
use Rattle.lk_link.specs.TableSizes.{TableSizes, first_taken}
use Rattle.lk_live.specs.declared.live.Live.{Live}
use Rattle.lk_tables.specs.Dynamic.{dynamic_index, dynamic_table}
use Rattle.lk_tables.specs.Late.{flags_at, late_flags}
use Rattle.lk_tables.specs.OwnEntries.{own_address}
use Rattle.lk_tables.specs.SymbolEntries.{got_entries, plt_entries}
use Rattle.lk_tables.specs.SymbolTable.{TableEntry}

-- ---- what they go by

-- what tables take on a machine, a link with what is live of it, the output sections whose edges are told, and where the parts start
pub record EntrySetting : Type 0 where
  pub sizes : TableSizes
  pub link : LinkInput
  pub live : Live
  pub told : List Bool
  pub starts : List ℕ

abbrev pub entry_setting : TableSizes → LinkInput → Live → List Bool → List ℕ → EntrySetting
entry_setting sizes link live told starts = record { sizes = sizes; link = link; live = live; told = told; starts = starts }

-- the flags of a symbol of a file of a kind, with its number, late marks included
abbrev pub told_flags : EntrySetting → FileKind → ℕ × InputSymbol → ValueFlags
told_flags by kind q = late_flags by.link by.told kind q.0 q.1 (flags_at by.live.flags q.0)

-- the entries of got and plt
abbrev pub got_table : EntrySetting → List TableEntry
got_table by = flat_map (got_entries by.sizes.allocation by.link by.live) (numbered_files by.link.groups)

abbrev pub plt_table : EntrySetting → List TableEntry
plt_table by = flat_map (plt_entries by.sizes.allocation by.link by.live) (numbered_files by.link.groups)

-- ---- a symbol's own

-- the address of a symbol's entry of so many bytes, in the table for which the plan names this part, by where the parts start; none where
-- it names no part, or the entry has no bytes
abbrev pub entry_in : Option ℕ → List ℕ → List TableEntry → ℕ → ℕ → Option ℕ
entry_in named starts table s bytes = option_and_then (λ p. first_taken (own_address (slice_index starts p) table s) bytes) named

-- the resolution of the symbol with this number, with these flags and this value, its entries and its number in the dynamic symbol table
unfoldable pub with_entries : EntrySetting → ℕ → ValueFlags → ℕ → Resolution
with_entries by s flags value = record {
  raw_value = value;
  flags = flags;
  dynamic = dynamic_index (dynamic_table by.link by.live by.told) s;
  got = entry_in by.link.plan.named.got by.starts (got_table by) s (by.sizes.allocation flags.0).got;
  plt = entry_in by.link.plan.named.plt by.starts (plt_table by) s (by.sizes.allocation flags.0).plt;
}
