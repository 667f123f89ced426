-- Words of private contracts: the entries that come next, as a walk over all symbols moves on.
use Rattle.std.specs.Prelude.{◌≡◌, ℕ, ◌+◌, ◌<◌, ◌^◌, if◌then◌else◌, List, Option, Some, None, is_some, slice_index, sum_by}
use Rattle.std.specs.Option.{option_map_or}
use Rattle.lk_link.specs.declared.file.FileKind.{FileKind}
use Rattle.lk_link.specs.declared.flags.ValueFlags.{ValueFlags}
use Rattle.lk_link.specs.declared.plan.NamedParts.{NamedParts}
use Rattle.lk_link.specs.declared.resolution.Resolution.{Resolution}
use Rattle.lk_link.specs.declared.symbol.InputSymbol.{InputSymbol}
use Rattle.lk_link.specs.Symbols.{is_wanted}
use Rattle.lk_link.specs.declared.tables.Allocation.{Allocation}
use Rattle.lk_link.specs.declared.tables.TableCursors.{TableCursors}
use Rattle.lk_link.specs.TableSizes.{first_taken}
use Rattle.lk_tables.specs.DynamicCounters.{AreNumbersAt}
use Rattle.lk_tables.specs.OwnEntries.{symbols_before_it, taken_by}
use Rattle.lk_tables.specs.SymbolTable.{TableEntry, entry_bytes}
use Rattle.lk_resolutions.specs.declared.entries.NextEntries.{NextEntries}
use Rattle.lk_resolutions.specs.Entries.{EntrySetting, got_table, plt_table, told_flags, with_entries}

-- the resolution of a symbol whose entries take these bytes at the cursors, as far as the plan names parts for them
abbrev pub made_at : NamedParts → TableCursors → Allocation → ValueFlags → ℕ → Option ℕ → Resolution
made_at named cursors taken flags value index = record {
  raw_value = value;
  flags = flags;
  dynamic = index;
  got = if is_some named.got then first_taken cursors.got taken.got else None;
  plt = if is_some named.plt then first_taken cursors.plt taken.plt else None;
}

-- the resolution of a symbol of a file of a kind, with its number, without a value, if it is wanted, late marks included
abbrev pub unplaced_resolution : EntrySetting → FileKind → ℕ × InputSymbol → Option Resolution
unplaced_resolution by kind q =
    let flags = told_flags by kind q in
    if is_wanted kind q.0 q.1 flags then Some (with_entries by q.0 flags 0) else None

-- a cursor behind so many bytes, where the plan names its part; else it stays
abbrev pub cursor_behind : Option ℕ → ℕ → ℕ → ℕ
cursor_behind named cursor bytes = if is_some named then cursor + bytes else cursor

-- the cursors behind these
abbrev pub cursors_behind : NamedParts → TableCursors → Allocation → TableCursors
cursors_behind named cursors taken = record { got = cursor_behind named.got cursors.got taken.got; plt = cursor_behind named.plt cursors.plt taken.plt }

-- the start of the part that is named, if one is, else 0
abbrev pub start_of : Option ℕ → List ℕ → ℕ
start_of named starts = option_map_or (slice_index starts) named 0

-- the cursors at the first symbol
abbrev pub first_cursors : NamedParts → List ℕ → TableCursors
first_cursors named starts = record { got = start_of named.got starts; plt = start_of named.plt starts }

-- the cursor stands behind so many bytes of the table for which the plan names this part, if it names one
abbrev pub IsCursor : Option ℕ → List ℕ → ℕ → ℕ → Type 0
IsCursor named starts bytes cursor = (p : ℕ) → named ≡ Some p → cursor ≡ slice_index starts p + bytes

-- the table for which the plan names this part ends below 2^64
abbrev pub TableFits : Option ℕ → List ℕ → List TableEntry → Type 0
TableFits named starts table = (p : ℕ) → named ≡ Some p → slice_index starts p + entry_bytes table < 2 ^ 64

-- so do got and plt
pub record TablesFit (by : EntrySetting) : Type 0 where
  pub got : TableFits by.link.plan.named.got by.starts (got_table by)
  pub plt : TableFits by.link.plan.named.plt by.starts (plt_table by)

-- the entries of the symbol with this number come next
pub record AreNextAt (by : EntrySetting) (s : ℕ) (next : NextEntries) : Type 0 where
  pub numbers : AreNumbersAt by.link by.live by.told s next.numbers
  pub got : IsCursor by.link.plan.named.got by.starts (sum_by (λ r. (taken_by by.sizes.allocation by.live r).got) (symbols_before_it by.link s)) next.cursors.got
  pub plt : IsCursor by.link.plan.named.plt by.starts (sum_by (λ r. (taken_by by.sizes.allocation by.live r).plt) (symbols_before_it by.link s)) next.cursors.plt
