-- How many entries each symbol has in each table.
use Rattle.std.specs.Prelude.{◌≡◌, ℕ, ◌+◌, ◌&&◌, not, Bool, if◌then◌else◌, List, Some, count_by, slice_get}
use Rattle.lk_link.specs.declared.link.LinkInput.{LinkInput}
use Rattle.lk_link.specs.declared.symbol.InputSymbol.{InputSymbol}
use Rattle.lk_link.specs.Inputs.{NumberedFile}
use Rattle.lk_link.specs.OutputKinds.{is_loaded_dynamically}
use Rattle.lk_link.specs.TableSizes.{TableSizes}
use Rattle.lk_live.specs.declared.live.Live.{Live}
use Rattle.lk_reach.specs.Units.{numbered_symbols}
use Rattle.lk_tables.specs.Dynamic.{is_dynamic_symbol, is_export}
use Rattle.lk_tables.specs.OwnEntries.{is_of}
use Rattle.lk_tables.specs.ShareWords.{has_entry_there}
use Rattle.lk_tables.specs.SymbolEntries.{is_resolved}
use Rattle.lk_tables.specs.SymbolTable.{is_local_entry}
use Rattle.lk_tables.specs.TableLists.{TableLists, whole_tables}

abbrev pub one_if : Bool → ℕ
one_if b = if b then 1 else 0

-- a symbol of a file has its own entries, and no more: one in got and in plt where it has a resolution; one in one of the two symbol tables,
-- and a name, where it is copied and there is a table; in the dynamic one, with a name, one where it is dynamic and one where it is exported
pub record HasOwnEntries (link : LinkInput) (live : Live) (told : List Bool) (lists : TableLists) (f : NumberedFile) (s : ℕ) (x : InputSymbol) : Type 0 where
  pub got : count_by (is_of s) lists.got ≡ one_if (is_resolved live f.file.kind (s, x))
  pub plt : count_by (is_of s) lists.plt ≡ one_if (is_resolved live f.file.kind (s, x))
  pub symtab_local : count_by (is_of s) lists.symtab_local ≡ one_if (has_entry_there link live told f (s, x) && is_local_entry f.file.kind (s, x))
  pub symtab_global : count_by (is_of s) lists.symtab_global
      ≡ one_if (has_entry_there link live told f (s, x) && not (is_local_entry f.file.kind (s, x)))
  pub strtab : count_by (is_of s) lists.strtab ≡ one_if (has_entry_there link live told f (s, x))
  pub dynsym : count_by (is_of s) lists.dynsym ≡ one_if (is_loaded_dynamically link.options.output && is_dynamic_symbol link live told f (s, x))
      + one_if (is_loaded_dynamically link.options.output && is_export live f (s, x))
  pub dynstr : count_by (is_of s) lists.dynstr ≡ one_if (is_loaded_dynamically link.options.output && is_dynamic_symbol link live told f (s, x))
      + one_if (is_loaded_dynamically link.options.output && is_export live f (s, x))

-- so it is of each symbol in the whole tables
abbrev pub SymbolsHaveOwnEntries : Type 0
SymbolsHaveOwnEntries = (sizes : TableSizes) (link : LinkInput) (live : Live) (told emitted : List Bool) (active : List ℕ) (s : ℕ) (f : NumberedFile) (x : InputSymbol)
    → slice_get (numbered_symbols link.groups) s ≡ Some (f, x)
    → HasOwnEntries link live told (whole_tables sizes link live told emitted active) f s x
