-- Where the entries of symbols stand, and how the cursors get there.
use Rattle.std.specs.Prelude.{◌≡◌, ℕ, ◌+◌, ◌≤◌, ◌==◌, Bool, true, false, List, Some, slice_get, sum_by, take}
use Rattle.std.specs.List.{enumerate_from, flat_map, position_or_len}
use Rattle.lk_link.specs.declared.link.LinkInput.{LinkInput}
use Rattle.lk_link.specs.declared.symbol.InputSymbol.{InputSymbol}
use Rattle.lk_link.specs.declared.tables.Allocation.{Allocation}
use Rattle.lk_link.specs.declared.tables.TableCursors.{TableCursors}
use Rattle.lk_link.specs.Inputs.{NumberedFile, numbered_files}
use Rattle.lk_link.specs.TableSizes.{behind}
use Rattle.lk_live.specs.declared.live.Live.{Live}
use Rattle.lk_reach.specs.Units.{numbered_symbols}
use Rattle.lk_tables.specs.SymbolEntries.{allocated, got_entries, is_resolved, plt_entries, symbol_allocation}
use Rattle.lk_tables.specs.SymbolTable.{SymbolEntry, TableEntry, TableOwner, entry_bytes}
use Rattle.lk_tables.specs.TableTiles.{entry_address}

-- whether an entry is this symbol's
abbrev pub is_owner : ℕ → TableOwner → Bool
is_owner s (SymbolEntry t) = t == s
is_owner s _ = false

abbrev pub is_of : ℕ → TableEntry → Bool
is_of s e = is_owner s e.owner

-- the place of a symbol's entry in a table, and its address, by the table's start: behind the entries before it
abbrev pub own_place : ℕ → List TableEntry → ℕ
own_place s entries = position_or_len (is_of s) entries

abbrev pub own_address : ℕ → List TableEntry → ℕ → ℕ
own_address start entries s = entry_address start entries (own_place s entries)

-- ---- cursors

-- what a symbol with its number and its file takes in got and plt
abbrev pub taken_by : (ℕ → Allocation) → Live → ℕ × (NumberedFile × InputSymbol) → Allocation
taken_by allocation live r = symbol_allocation allocation live r.1.0.file.kind (r.0, r.1.1)

-- the symbols before the one with this number, with their numbers
abbrev pub symbols_before_it : LinkInput → ℕ → List (ℕ × (NumberedFile × InputSymbol))
symbols_before_it link s = enumerate_from 0 (take s (numbered_symbols link.groups))

-- the cursors at a symbol: the starts of both tables, and behind these what the symbols before it take
abbrev pub cursors_at : (ℕ → Allocation) → LinkInput → Live → TableCursors → ℕ → TableCursors
cursors_at allocation link live starts s = record {
  got = starts.got + sum_by (λ r. (taken_by allocation live r).got) (symbols_before_it link s);
  plt = starts.plt + sum_by (λ r. (taken_by allocation live r).plt) (symbols_before_it link s);
}

-- a symbol's entry of so many bytes is in the table, at the cursor, and ends inside the table
pub record IsReachedBy (start : ℕ) (entries : List TableEntry) (s : ℕ) (cursor : ℕ) (bytes : ℕ) : Type 0 where
  pub there : slice_get entries (own_place s entries) ≡ Some (record { owner = SymbolEntry s; bytes = bytes })
  pub address : own_address start entries s ≡ cursor
  pub room : cursor + bytes ≤ start + entry_bytes entries

-- the cursors reach the entries of each symbol with a resolution
abbrev pub CursorsReachEntries : Type 0
CursorsReachEntries = (allocation : ℕ → Allocation) (link : LinkInput) (live : Live) (starts : TableCursors) (s : ℕ) (f : NumberedFile) (x : InputSymbol)
    → slice_get (numbered_symbols link.groups) s ≡ Some (f, x) → is_resolved live f.file.kind (s, x) ≡ true
    → IsReachedBy starts.got (flat_map (got_entries allocation link live) (numbered_files link.groups)) s (cursors_at allocation link live starts s).got (allocated allocation live (s, x)).got
    × IsReachedBy starts.plt (flat_map (plt_entries allocation link live) (numbered_files link.groups)) s (cursors_at allocation link live starts s).plt (allocated allocation live (s, x)).plt

-- they move on by what each symbol takes
abbrev pub CursorsMoveOn : Type 0
CursorsMoveOn = (allocation : ℕ → Allocation) (link : LinkInput) (live : Live) (starts : TableCursors) (s : ℕ) (f : NumberedFile) (x : InputSymbol)
    → slice_get (numbered_symbols link.groups) s ≡ Some (f, x)
    → cursors_at allocation link live starts (s + 1) ≡ behind (cursors_at allocation link live starts s) (taken_by allocation live (s, (f, x)))
