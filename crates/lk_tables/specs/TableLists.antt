-- The tables of the output: whose entries each of them has, in order.
use Rattle.std.specs.Prelude.{ℕ, Bool, not, if◌then◌else◌, List, [], ◌∷◌, ◌++◌, Option, filter, map}
use Rattle.std.specs.List.{flat_map, zip}
use Rattle.lk_link.specs.declared.link.LinkInput.{LinkInput}
use Rattle.lk_link.specs.declared.plan.NamedParts.{NamedParts}
use Rattle.lk_link.specs.FileKinds.{is_prelude}
use Rattle.lk_link.specs.Inputs.{NumberedFile, numbered_files}
use Rattle.lk_link.specs.OutputKinds.{is_loaded_dynamically}
use Rattle.lk_link.specs.PartRules.{is_part, table_parts}
use Rattle.lk_link.specs.TableSizes.{TableSizes}
use Rattle.lk_live.specs.declared.live.Live.{Live}
use Rattle.lk_tables.specs.Dynamic.{is_dynamic_symbol, is_export}
use Rattle.lk_tables.specs.HeaderParts.{file_header_entries, program_header_entries, section_header_entries, section_name_entries}
use Rattle.lk_tables.specs.SymbolEntries.{got_entries, plt_entries}
use Rattle.lk_tables.specs.SymbolTable.{TableEntry, entry_bytes, entry_of, first_entry, global_entries, local_entries, name_entries, name_of, symbols_by_number}

-- the entries of each table
pub record TableLists : Type 0 where
  pub got : List TableEntry
  pub plt : List TableEntry
  pub symtab_local : List TableEntry
  pub symtab_global : List TableEntry
  pub strtab : List TableEntry
  pub dynsym : List TableEntry
  pub dynstr : List TableEntry
  pub file_header : List TableEntry
  pub program_headers : List TableEntry
  pub section_headers : List TableEntry
  pub shstrtab : List TableEntry

-- ---- by part

-- all of them, in the order in which the plan names their parts
abbrev pub all_lists : TableLists → List (List TableEntry)
all_lists t = t.got ∷ t.plt ∷ t.symtab_local ∷ t.symtab_global ∷ t.strtab ∷ t.dynsym ∷ t.dynstr
    ∷ t.file_header ∷ t.program_headers ∷ t.section_headers ∷ t.shstrtab ∷ []

-- the entries of a table, if its part is this one
abbrev pub entries_if : ℕ → Option ℕ × List TableEntry → List TableEntry
entries_if p q = if is_part p q.0 then q.1 else []

-- the entries of a part: those of the tables for which the plan names it
abbrev pub table_of : NamedParts → TableLists → ℕ → List TableEntry
table_of named t p = flat_map (entries_if p) (zip (table_parts named) (all_lists t))

-- their bytes
abbrev pub table_bytes : NamedParts → TableLists → ℕ → ℕ
table_bytes named t p = entry_bytes (table_of named t p)

-- ---- dynamic symbols

-- the entries of a file's dynamic symbols, each so many bytes long, and their names
abbrev pub file_dynamic_entries : ℕ → LinkInput → Live → List Bool → NumberedFile → List TableEntry
file_dynamic_entries entry link live told f = map (entry_of entry) (filter (is_dynamic_symbol link live told f) (symbols_by_number link f))

abbrev pub file_dynamic_names : LinkInput → Live → List Bool → NumberedFile → List TableEntry
file_dynamic_names link live told f = map name_of (filter (is_dynamic_symbol link live told f) (symbols_by_number link f))

-- those of what a file exports
abbrev pub file_export_entries : ℕ → LinkInput → Live → NumberedFile → List TableEntry
file_export_entries entry link live f = map (entry_of entry) (filter (is_export live f) (symbols_by_number link f))

abbrev pub file_export_names : LinkInput → Live → NumberedFile → List TableEntry
file_export_names link live f = map name_of (filter (is_export live f) (symbols_by_number link f))

-- what the dynamic symbol table or its names have, where a dynamic linker loads the output
abbrev pub if_dynamic : LinkInput → List TableEntry → List TableEntry
if_dynamic link entries = if is_loaded_dynamically link.options.output then entries else []

-- ---- what is known of the tables

-- the files but the prelude
abbrev pub other_files : LinkInput → List NumberedFile
other_files link = filter (λ f. not (is_prelude f.file.kind)) (numbered_files link.groups)

-- the tables, without headers, as far as some files bring entries for symbols, by the sections whose edges are told: in got and plt what
-- each symbol with a resolution asks for, in all files; in the symbol tables and their names what these files bring; in the dynamic ones,
-- where a dynamic linker loads the output, first their own entries, as given for so many bytes, then the dynamic symbols of these files,
-- then what all files export
abbrev pub tables_by : TableSizes → LinkInput → Live → List Bool → List NumberedFile → (ℕ → List TableEntry) → TableLists
tables_by sizes link live told files own = record {
  got = flat_map (got_entries sizes.allocation link live) (numbered_files link.groups);
  plt = flat_map (plt_entries sizes.allocation link live) (numbered_files link.groups);
  symtab_local = flat_map (local_entries sizes.symbol_entry link live told) files;
  symtab_global = flat_map (global_entries sizes.symbol_entry link live told) files;
  strtab = flat_map (name_entries link live told) files;
  dynsym = if_dynamic link (own sizes.symbol_entry ++ (flat_map (file_dynamic_entries sizes.symbol_entry link live told) files
      ++ flat_map (file_export_entries sizes.symbol_entry link live) (numbered_files link.groups)));
  dynstr = if_dynamic link (own 1 ++ (flat_map (file_dynamic_names link live told) files
      ++ flat_map (file_export_names link live) (numbered_files link.groups)));
  file_header = [];
  program_headers = [];
  section_headers = [];
  shstrtab = [];
}

-- the tables as far as they are known before it is known which sections are emitted: without what the prelude brings but in got and plt and
-- by exports, since only symbols of the prelude are marked late; no table's own entry, and no header
abbrev pub first_tables : TableSizes → LinkInput → Live → TableLists
first_tables sizes link live = tables_by sizes link live [] (other_files link) (λ bytes. [])

-- the whole tables, by the sections whose edges are told, those that are emitted and the active segments: by all files, where each dynamic
-- table begins with an entry of its own; with the file's header, one for each active segment, and one for each emitted section and each
-- singleton, and the names of these
abbrev pub whole_tables : TableSizes → LinkInput → Live → List Bool → List Bool → List ℕ → TableLists
whole_tables sizes link live told emitted active =
    record (tables_by sizes link live told (numbered_files link.groups) (λ bytes. first_entry bytes ∷ [])) {
      file_header = file_header_entries sizes.file_header;
      program_headers = program_header_entries sizes.program_header active;
      section_headers = section_header_entries sizes.section_header link live emitted;
      shstrtab = section_name_entries link live emitted;
    }
