-- What holds of the tables of a link.
use Rattle.std.specs.Prelude.{◌≡◌, ℕ, ◌<◌, ◌≤◌, Bool, false, List, [], Some, None, slice_get}
use Rattle.lk_link.specs.declared.link.LinkInput.{LinkInput}
use Rattle.lk_link.specs.declared.plan.NamedParts.{NamedParts}
use Rattle.lk_link.specs.PartRules.{is_table_part, table_parts}
use Rattle.lk_link.specs.TableSizes.{TableSizes}
use Rattle.lk_link.specs.WellFormed.{IsWellFormed}
use Rattle.lk_live.specs.declared.live.Live.{Live}
use Rattle.lk_tables.specs.Dynamic.{dynamic_index, dynamic_table}
use Rattle.lk_tables.specs.SymbolTable.{SymbolEntry, TableEntry}
use Rattle.lk_tables.specs.TableLists.{TableLists, all_lists, first_tables, table_bytes, table_of, whole_tables}

-- in a well-formed link, the part that the plan names for a table has the entries of that table, and nothing else
abbrev pub NamedPartsHaveTheirTable : Type 0
NamedPartsHaveTheirTable = (link : LinkInput) (lists : TableLists) (k p : ℕ) (entries : List TableEntry) → IsWellFormed link
    → slice_get (table_parts link.plan.named) k ≡ Some (Some p) → slice_get (all_lists lists) k ≡ Some entries
    → table_of link.plan.named lists p ≡ entries

-- a part that it names for no table has no entries
abbrev pub OtherPartsHaveNoEntries : Type 0
OtherPartsHaveNoEntries = (named : NamedParts) (lists : TableLists) (p : ℕ) → is_table_part named p ≡ false → table_of named lists p ≡ []

-- ---- numbers in the dynamic symbol table

-- a symbol has the entry at this place, so many bytes long, and none behind it
pub record HasLastEntry (s : ℕ) (k : ℕ) (bytes : ℕ) (entries : List TableEntry) : Type 0 where
  pub there : slice_get entries k ≡ Some (record { owner = SymbolEntry s; bytes = bytes })
  pub last : (j : ℕ) → k < j → slice_get entries j ≡ Some (record { owner = SymbolEntry s; bytes = bytes }) → ⊥

-- a symbol has no entry
abbrev pub HasNoEntry : ℕ → ℕ → List TableEntry → Type 0
HasNoEntry s bytes entries = (j : ℕ) → slice_get entries j ≡ Some (record { owner = SymbolEntry s; bytes = bytes }) → ⊥

-- the number of a symbol is the place of its last entry in the whole table; where it has no number, it has no entry there
abbrev pub IndexesNameEntries : Type 0
IndexesNameEntries = (sizes : TableSizes) (link : LinkInput) (live : Live) (told emitted : List Bool) (active : List ℕ) (s : ℕ)
    → ((k : ℕ) → dynamic_index (dynamic_table link live told) s ≡ Some k
    → HasLastEntry s k sizes.symbol_entry (whole_tables sizes link live told emitted active).dynsym)
    × (dynamic_index (dynamic_table link live told) s ≡ None
    → HasNoEntry s sizes.symbol_entry (whole_tables sizes link live told emitted active).dynsym)

-- ---- first and whole

-- what tables take first of a part is no more than what they take there in all
abbrev pub FirstTablesAreWithin : Type 0
FirstTablesAreWithin = (sizes : TableSizes) (link : LinkInput) (live : Live) (told emitted : List Bool) (active : List ℕ) (p : ℕ)
    → table_bytes link.plan.named (first_tables sizes link live) p ≤ table_bytes link.plan.named (whole_tables sizes link live told emitted active) p
