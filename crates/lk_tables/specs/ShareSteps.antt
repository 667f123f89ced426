-- What the code goes by: what each symbol and each file brings to the tables. Contracts of private functions speak of these.
use Rattle.std.specs.Prelude.{ℕ, ◌+◌, ◌*◌, ◌&&◌, not, Bool, if◌then◌else◌, List, [], length, map, sum_by}
use Rattle.lk_link.specs.declared.link.LinkInput.{LinkInput}
use Rattle.lk_link.specs.declared.symbol.InputSymbol.{InputSymbol}
use Rattle.lk_link.specs.declared.tables.Allocation.{Allocation}
use Rattle.lk_link.specs.FileKinds.{is_prelude}
use Rattle.lk_link.specs.Inputs.{NumberedFile, numbered_files}
use Rattle.lk_link.specs.OutputKinds.{is_partial}
use Rattle.lk_link.specs.TableSizes.{TableSizes}
use Rattle.lk_live.specs.declared.live.Live.{Live}
use Rattle.lk_tables.specs.declared.shares.DynamicShare.{DynamicShare}
use Rattle.lk_tables.specs.declared.shares.EntryShare.{EntryShare}
use Rattle.lk_tables.specs.declared.shares.FileShare.{FileShare}
use Rattle.lk_tables.specs.declared.shares.SymtabShare.{SymtabShare}
use Rattle.lk_tables.specs.Dynamic.{is_dynamic_symbol, is_export}
use Rattle.lk_tables.specs.HeaderParts.{told_sum}
use Rattle.lk_tables.specs.ShareWords.{has_entry_there, no_dynamic, no_entries, no_symtab}
use Rattle.lk_tables.specs.Singletons.{singletons, told_sections}
use Rattle.lk_tables.specs.SymbolEntries.{allocated, is_resolved}
use Rattle.lk_tables.specs.SymbolTable.{is_local_entry, symbols_by_number}

-- ---- a symbol

-- bytes in got and plt, if they are taken
abbrev pub entry_share : Bool → Allocation → EntryShare
entry_share taken all = record { got = if taken then all.got else 0; plt = if taken then all.plt else 0 }

-- those of one that is in the symbol table or isn't, among the local symbols or the others, with entries of so many bytes and a name of so
-- many
abbrev pub symtab_share : Bool → Bool → ℕ → ℕ → SymtabShare
symtab_share there own entry len = record {
  local = if there && own then entry else 0;
  global = if there && not own then entry else 0;
  names = if there then len + 1 else 0;
}

-- those of one that is in the dynamic symbol table or isn't
abbrev pub dynamic_share : Bool → ℕ → ℕ → DynamicShare
dynamic_share there entry len = record {
  count = if there then 1 else 0;
  entries = if there then entry else 0;
  names = if there then len + 1 else 0;
}

-- what a symbol of a file, with its number, brings
abbrev pub symbol_share : TableSizes → LinkInput → Live → List Bool → NumberedFile → ℕ × InputSymbol → FileShare
symbol_share sizes link live told f q = record {
  entries = entry_share (is_resolved live f.file.kind q) (allocated sizes.allocation live q);
  symtab = symtab_share (has_entry_there link live told f q) (is_local_entry f.file.kind q) sizes.symbol_entry (length q.1.name);
  dynamic = dynamic_share (is_dynamic_symbol link live told f q) sizes.symbol_entry (length q.1.name);
  exports = dynamic_share (is_export live f q) sizes.symbol_entry (length q.1.name);
}

-- ---- sums

-- both together
abbrev pub plus_entries : EntryShare → EntryShare → EntryShare
plus_entries a b = record { got = told_sum (a.got + b.got); plt = told_sum (a.plt + b.plt) }

abbrev pub plus_symtab : SymtabShare → SymtabShare → SymtabShare
plus_symtab a b = record {
  local = told_sum (a.local + b.local);
  global = told_sum (a.global + b.global);
  names = told_sum (a.names + b.names);
}

abbrev pub plus_dynamic : DynamicShare → DynamicShare → DynamicShare
plus_dynamic a b = record {
  count = told_sum (a.count + b.count);
  entries = told_sum (a.entries + b.entries);
  names = told_sum (a.names + b.names);
}

abbrev pub plus : FileShare → FileShare → FileShare
plus a b = record {
  entries = plus_entries a.entries b.entries;
  symtab = plus_symtab a.symtab b.symtab;
  dynamic = plus_dynamic a.dynamic b.dynamic;
  exports = plus_dynamic a.exports b.exports;
}

-- nothing
abbrev pub no_share : FileShare
no_share = record { entries = no_entries; symtab = no_symtab; dynamic = no_dynamic; exports = no_dynamic }

-- some together, each sum as it is told
abbrev pub dynamic_sum : (FileShare → DynamicShare) → List FileShare → DynamicShare
dynamic_sum part shares = record {
  count = told_sum (sum_by (λ s. (part s).count) shares);
  entries = told_sum (sum_by (λ s. (part s).entries) shares);
  names = told_sum (sum_by (λ s. (part s).names) shares);
}

abbrev pub sum_of : List FileShare → FileShare
sum_of shares = record {
  entries = record {
    got = told_sum (sum_by (λ s. s.entries.got) shares);
    plt = told_sum (sum_by (λ s. s.entries.plt) shares);
  };
  symtab = record {
    local = told_sum (sum_by (λ s. s.symtab.local) shares);
    global = told_sum (sum_by (λ s. s.symtab.global) shares);
    names = told_sum (sum_by (λ s. s.symtab.names) shares);
  };
  dynamic = dynamic_sum (λ s. s.dynamic) shares;
  exports = dynamic_sum (λ s. s.exports) shares;
}

-- ---- a file

-- what all symbols of a file bring
abbrev pub file_share : TableSizes → LinkInput → Live → List Bool → NumberedFile → FileShare
file_share sizes link live told f = sum_of (map (symbol_share sizes link live told f) (symbols_by_number link f))

-- of what a file brings, what doesn't wait for late marks, and what does
abbrev pub early_part : FileShare → FileShare
early_part s = record { entries = s.entries; symtab = no_symtab; dynamic = no_dynamic; exports = s.exports }

abbrev pub late_part : FileShare → FileShare
late_part s = record { entries = no_entries; symtab = s.symtab; dynamic = s.dynamic; exports = no_dynamic }

-- what a file brings first: all, of the prelude what doesn't wait
abbrev pub brought_first : TableSizes → LinkInput → Live → NumberedFile → FileShare
brought_first sizes link live f =
    if is_prelude f.file.kind then early_part (file_share sizes link live [] f) else file_share sizes link live [] f

-- how many entries the table of local symbols has itself
abbrev pub own_locals : LinkInput → Live → List Bool → ℕ
own_locals link live told =
    if is_partial link.options.output then 1 + length (told_sections link told) + length (singletons link live) else 1

-- what the symbol table itself takes, where there is one
abbrev pub table_share : LinkInput → Live → ℕ → List Bool → FileShare
table_share link live entry told = record {
  entries = no_entries;
  symtab = record {
    local = if not link.options.strip_all then told_sum (entry * own_locals link live told) else 0;
    global = 0;
    names = if not link.options.strip_all then 1 else 0;
  };
  dynamic = no_dynamic;
  exports = no_dynamic;
}

-- what the prelude brings behind that: what the table has itself, and its symbols, late marks included; other files nothing
abbrev pub brought_late : TableSizes → LinkInput → Live → List Bool → NumberedFile → FileShare
brought_late sizes link live told f =
    if is_prelude f.file.kind then plus (table_share link live sizes.symbol_entry told) (late_part (file_share sizes link live told f)) else no_share

-- what a file brings to the symbol table and its names, the prelude with the table's own
abbrev pub whole_symtab : TableSizes → LinkInput → Live → List Bool → NumberedFile → SymtabShare
whole_symtab sizes link live told f =
    if is_prelude f.file.kind
    then plus_symtab (table_share link live sizes.symbol_entry told).symtab (file_share sizes link live told f).symtab
    else (file_share sizes link live told f).symtab

-- ---- all files

-- what each file brings first
abbrev pub all_brought_first : TableSizes → LinkInput → Live → List FileShare
all_brought_first sizes link live = map (brought_first sizes link live) (numbered_files link.groups)

-- what the prelude brings behind that
abbrev pub all_brought_late : TableSizes → LinkInput → Live → List Bool → FileShare
all_brought_late sizes link live told = sum_of (map (brought_late sizes link live told) (numbered_files link.groups))
