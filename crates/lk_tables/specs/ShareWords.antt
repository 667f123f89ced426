-- What files take in tables: how many entries of their own they have there, and the bytes of these.
use Rattle.std.specs.Prelude.{ℕ, ◌&&◌, not, Bool, if◌then◌else◌, List, [], filter, length, map}
use Rattle.std.specs.List.{flat_map}
use Rattle.lk_link.specs.declared.link.LinkInput.{LinkInput}
use Rattle.lk_link.specs.declared.symbol.InputSymbol.{InputSymbol}
use Rattle.lk_link.specs.FileKinds.{is_prelude}
use Rattle.lk_link.specs.Inputs.{NumberedFile, numbered_files}
use Rattle.lk_link.specs.TableSizes.{TableSizes}
use Rattle.lk_live.specs.declared.live.Live.{Live}
use Rattle.lk_tables.specs.declared.shares.DynamicShare.{DynamicShare}
use Rattle.lk_tables.specs.declared.shares.EntryShare.{EntryShare}
use Rattle.lk_tables.specs.declared.shares.FileShare.{FileShare}
use Rattle.lk_tables.specs.declared.shares.SymtabShare.{SymtabShare}
use Rattle.lk_tables.specs.HeaderParts.{told_sum}
use Rattle.lk_tables.specs.SymbolEntries.{got_entries, plt_entries}
use Rattle.lk_tables.specs.SymbolTable.{TableEntry, entry_bytes, global_entries, is_in_table, local_entries, name_entries}
use Rattle.lk_tables.specs.TableLists.{file_dynamic_entries, file_dynamic_names, file_export_entries, file_export_names}

-- whether a symbol of a file, with its number, has an entry in the symbol table, and there is one
abbrev pub has_entry_there : LinkInput → Live → List Bool → NumberedFile → ℕ × InputSymbol → Bool
has_entry_there link live told f q = not link.options.strip_all && is_in_table link live told f q

-- ---- what entries take

-- entries of got, and of plt
abbrev pub entries_taken : List TableEntry → List TableEntry → EntryShare
entries_taken got plt = record { got = told_sum (entry_bytes got); plt = told_sum (entry_bytes plt) }

-- entries of the table of local symbols, of that of the others, and of the names of both
abbrev pub symtab_taken : List TableEntry → List TableEntry → List TableEntry → SymtabShare
symtab_taken local global names = record {
  local = told_sum (entry_bytes local);
  global = told_sum (entry_bytes global);
  names = told_sum (entry_bytes names);
}

-- entries of the dynamic symbol table, and of its names
abbrev pub dynamic_taken : List TableEntry → List TableEntry → DynamicShare
dynamic_taken entries names = record {
  count = told_sum (length entries);
  entries = told_sum (entry_bytes entries);
  names = told_sum (entry_bytes names);
}

-- nothing
abbrev pub no_symtab : SymtabShare
no_symtab = record { local = 0; global = 0; names = 0 }

abbrev pub no_dynamic : DynamicShare
no_dynamic = record { count = 0; entries = 0; names = 0 }

abbrev pub no_entries : EntryShare
no_entries = record { got = 0; plt = 0 }

-- ---- files

-- what a file takes first, before it is known which sections are emitted: in got and plt, and for what it exports; but for the prelude, some
-- of whose symbols are marked late, in the symbol table, for its dynamic symbols, and in the names of both
abbrev pub first_share : TableSizes → LinkInput → Live → NumberedFile → FileShare
first_share sizes link live f = record {
  entries = entries_taken (got_entries sizes.allocation link live f) (plt_entries sizes.allocation link live f);
  symtab = if is_prelude f.file.kind then no_symtab
      else symtab_taken (local_entries sizes.symbol_entry link live [] f) (global_entries sizes.symbol_entry link live [] f) (name_entries link live [] f);
  dynamic = if is_prelude f.file.kind then no_dynamic
      else dynamic_taken (file_dynamic_entries sizes.symbol_entry link live [] f) (file_dynamic_names link live [] f);
  exports = dynamic_taken (file_export_entries sizes.symbol_entry link live f) (file_export_names link live f);
}

-- that of each file, by group and index
abbrev pub first_shares : TableSizes → LinkInput → Live → List FileShare
first_shares sizes link live = map (first_share sizes link live) (numbered_files link.groups)

-- the prelude
abbrev pub preludes : LinkInput → List NumberedFile
preludes link = filter (λ f. is_prelude f.file.kind) (numbered_files link.groups)

-- what the prelude takes behind that, by the sections whose edges are told: in the symbol table, with what the table has itself, for
-- its dynamic symbols, and in the names of both
abbrev pub prelude_share : TableSizes → LinkInput → Live → List Bool → FileShare
prelude_share sizes link live told = record {
  entries = no_entries;
  symtab = symtab_taken (flat_map (local_entries sizes.symbol_entry link live told) (preludes link))
      (flat_map (global_entries sizes.symbol_entry link live told) (preludes link)) (flat_map (name_entries link live told) (preludes link));
  dynamic = dynamic_taken (flat_map (file_dynamic_entries sizes.symbol_entry link live told) (preludes link))
      (flat_map (file_dynamic_names link live told) (preludes link));
  exports = no_dynamic;
}
