-- The entries of a table share out its bytes.
use Rattle.std.specs.Prelude.{◌≡◌, ℕ, ◌+◌, ◌<◌, ◌≤◌, List, Some, slice_get, take}
use Rattle.lk_tables.specs.SymbolTable.{TableEntry, entry_bytes}

-- an entry's address: its table's start, and the bytes of the entries before it
abbrev pub entry_address : ℕ → List TableEntry → ℕ → ℕ
entry_address start entries k = start + entry_bytes (take k entries)

-- entry k has the byte at this address
pub record HasEntryByte (start : ℕ) (entries : List TableEntry) (k : ℕ) (address : ℕ) : Type 0 where
  pub entry : TableEntry
  pub there : slice_get entries k ≡ Some entry
  pub from : entry_address start entries k ≤ address
  pub below : address < entry_address start entries k + entry.bytes

-- the entries stay within their table, each byte of it has an entry, and no byte has two
pub record AreTiled (start : ℕ) (entries : List TableEntry) : Type 0 where
  pub inside : (k address : ℕ) → HasEntryByte start entries k address → (start ≤ address) × (address < start + entry_bytes entries)
  pub covered : (address : ℕ) → start ≤ address → address < start + entry_bytes entries → (k : ℕ) × HasEntryByte start entries k address
  pub apart : (j k address : ℕ) → HasEntryByte start entries j address → HasEntryByte start entries k address → j ≡ k

-- the entries of each table tile it, wherever it starts
abbrev pub EntriesTileTheirTable : Type 0
EntriesTileTheirTable = (start : ℕ) (entries : List TableEntry) → AreTiled start entries
