-- What the symbols of files take in the parts got and plt.
use Rattle.std.specs.Prelude.{ℕ, Bool, if◌then◌else◌, List, filter, map}
use Rattle.lk_link.specs.declared.file.FileKind.{FileKind}
use Rattle.lk_link.specs.declared.link.LinkInput.{LinkInput}
use Rattle.lk_link.specs.declared.symbol.InputSymbol.{InputSymbol}
use Rattle.lk_link.specs.declared.tables.Allocation.{Allocation}
use Rattle.lk_link.specs.Inputs.{NumberedFile}
use Rattle.lk_live.specs.declared.live.Live.{Live}
use Rattle.lk_link.specs.Symbols.{is_wanted}
use Rattle.lk_tables.specs.Late.{flags_at}
use Rattle.lk_tables.specs.SymbolTable.{TableEntry, entry_of, symbols_by_number}

-- whether a symbol of a file of a kind, with its number, has a resolution; a late mark asks for no bytes here
abbrev pub is_resolved : Live → FileKind → ℕ × InputSymbol → Bool
is_resolved live kind q = is_wanted kind q.0 q.1 (flags_at live.flags q.0)

-- the bytes that its flags ask for, by what the machine allocates for flags
abbrev pub allocated : (ℕ → Allocation) → Live → ℕ × InputSymbol → Allocation
allocated allocation live q = allocation (flags_at live.flags q.0).0

-- in got a file takes what its symbols with resolutions ask for, by number
abbrev pub got_entries : (ℕ → Allocation) → LinkInput → Live → NumberedFile → List TableEntry
got_entries allocation link live f =
    map (λ q. entry_of (allocated allocation live q).got q) (filter (is_resolved live f.file.kind) (symbols_by_number link f))

-- in plt likewise
abbrev pub plt_entries : (ℕ → Allocation) → LinkInput → Live → NumberedFile → List TableEntry
plt_entries allocation link live f =
    map (λ q. entry_of (allocated allocation live q).plt q) (filter (is_resolved live f.file.kind) (symbols_by_number link f))

-- ---- a symbol

-- bytes, if they are taken
abbrev pub allocation_if : Bool → Allocation → Allocation
allocation_if taken all = record { got = if taken then all.got else 0; plt = if taken then all.plt else 0 }

-- what a symbol of a file of a kind takes
abbrev pub symbol_allocation : (ℕ → Allocation) → Live → FileKind → ℕ × InputSymbol → Allocation
symbol_allocation allocation live kind q = allocation_if (is_resolved live kind q) (allocated allocation live q)
