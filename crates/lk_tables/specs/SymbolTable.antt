-- What the symbols of files take in the symbol table and its names.
use Rattle.std.specs.Prelude.{ℕ, ◌+◌, ◌&&◌, ◌||◌, not, Bool, if◌then◌else◌, List, [], ◌∷◌, ◌++◌, filter, length, map, sum_by}
use Rattle.std.specs.List.{enumerate_from}
use Rattle.lk_link.specs.declared.file.FileKind.{FileKind}
use Rattle.lk_link.specs.declared.ids.FileId.{FileId}
use Rattle.lk_link.specs.declared.link.LinkInput.{LinkInput}
use Rattle.lk_link.specs.declared.symbol.InputSymbol.{InputSymbol}
use Rattle.lk_link.specs.FileKinds.{is_internal, is_prelude}
use Rattle.lk_link.specs.Inputs.{Input, NumberedFile, numbered_files}
use Rattle.lk_link.specs.OutputKinds.{is_partial}
use Rattle.lk_link.specs.Symbols.{first_symbol}
use Rattle.lk_live.specs.declared.live.Live.{Live}
use Rattle.lk_tables.specs.Copied.{is_copied, is_copied_undefined}
use Rattle.lk_tables.specs.Late.{flags_at, late_flags}
use Rattle.lk_tables.specs.Singletons.{singletons, told_sections}

-- ---- entries

-- one that takes bytes of a table: the table itself, for the entry that each begins with; a symbol by its number; the file, a segment, an
-- output section or an input section that stays one, for its header, its name or its symbol
pub data TableOwner : Type 0 where
  FirstEntry : TableOwner
  SymbolEntry : ℕ → TableOwner
  FileEntry : TableOwner
  SegmentEntry : ℕ → TableOwner
  SectionEntry : ℕ → TableOwner
  InputEntry : FileId → ℕ → TableOwner

-- an entry of a table: whose it is, and its bytes
pub record TableEntry : Type 0 where
  pub owner : TableOwner
  pub bytes : ℕ

-- the bytes of some entries
abbrev pub entry_bytes : List TableEntry → ℕ
entry_bytes entries = sum_by (λ e. e.bytes) entries

-- the entry of a table itself, so many bytes long
abbrev pub first_entry : ℕ → TableEntry
first_entry bytes = record { owner = FirstEntry; bytes = bytes }

-- that of an output section, so many bytes long
abbrev pub section_entry : ℕ → ℕ → TableEntry
section_entry bytes s = record { owner = SectionEntry s; bytes = bytes }

-- that of an input section that stays one
abbrev pub singleton_entry : ℕ → Input → TableEntry
singleton_entry bytes x = record { owner = InputEntry x.file x.index; bytes = bytes }

-- that of a symbol with its number, so many bytes long
abbrev pub entry_of : ℕ → ℕ × InputSymbol → TableEntry
entry_of bytes q = record { owner = SymbolEntry q.0; bytes = bytes }

-- its name, with a zero byte behind it
abbrev pub name_of : ℕ × InputSymbol → TableEntry
name_of q = entry_of (length q.1.name + 1) q

-- ---- the symbols in the table

-- whether a symbol of a file, with its number, is in the symbol table, late marks included
abbrev pub is_in_table : LinkInput → Live → List Bool → NumberedFile → ℕ × InputSymbol → Bool
is_in_table link live told f q =
    let flags = late_flags link told f.file.kind q.0 q.1 (flags_at live.flags q.0) in
    is_copied link live f q.0 q.1 flags || is_copied_undefined link f q.0 q.1 flags

-- whether it is among the local ones there: a local symbol, and a hidden one that the linker places
abbrev pub is_local_entry : FileKind → ℕ × InputSymbol → Bool
is_local_entry kind q = q.1.local || (q.1.hidden && is_internal kind)

-- the symbols of a file, with their numbers
abbrev pub symbols_by_number : LinkInput → NumberedFile → List (ℕ × InputSymbol)
symbols_by_number link f = enumerate_from (first_symbol link.groups f.id) f.file.symbols

-- those in the symbol table; without one there are none
abbrev pub table_symbols : LinkInput → Live → List Bool → NumberedFile → List (ℕ × InputSymbol)
table_symbols link live told f =
    if link.options.strip_all then [] else filter (is_in_table link live told f) (symbols_by_number link f)

-- what the prelude takes for a table itself, where there is a symbol table
abbrev pub table_start : LinkInput → NumberedFile → List TableEntry → List TableEntry
table_start link f own = if is_prelude f.file.kind && not link.options.strip_all then own else []

-- in output that is linked again sections have symbols, so many bytes each: each output section whose edges are told, and each singleton
abbrev pub section_symbols : ℕ → LinkInput → Live → List Bool → List TableEntry
section_symbols entry link live told =
    if is_partial link.options.output
    then map (section_entry entry) (told_sections link told) ++ map (singleton_entry entry) (singletons link live)
    else []

-- what the table of local symbols has itself: an empty entry, and the symbols of sections
abbrev pub local_start : ℕ → LinkInput → Live → List Bool → List TableEntry
local_start entry link live told = first_entry entry ∷ section_symbols entry link live told

-- ---- what a file takes

-- in the table of local symbols, with entries of so many bytes: the prelude what the table has itself, then each file its local symbols
abbrev pub local_entries : ℕ → LinkInput → Live → List Bool → NumberedFile → List TableEntry
local_entries entry link live told f =
    table_start link f (local_start entry link live told) ++ map (entry_of entry) (filter (is_local_entry f.file.kind) (table_symbols link live told f))

-- in that of the others: each file those
abbrev pub global_entries : ℕ → LinkInput → Live → List Bool → NumberedFile → List TableEntry
global_entries entry link live told f =
    map (entry_of entry) (filter (λ q. not (is_local_entry f.file.kind q)) (table_symbols link live told f))

-- in the names of symbols: the prelude an empty name first, then each file the names of its symbols
abbrev pub name_entries : LinkInput → Live → List Bool → NumberedFile → List TableEntry
name_entries link live told f = table_start link f (first_entry 1 ∷ []) ++ map name_of (table_symbols link live told f)

-- the bytes of a file there, with its number
abbrev pub file_symbol_sizes : ℕ → LinkInput → Live → List Bool → NumberedFile → FileId × ℕ × ℕ × ℕ
file_symbol_sizes entry link live told f = (
  f.id,
  entry_bytes (local_entries entry link live told f),
  entry_bytes (global_entries entry link live told f),
  entry_bytes (name_entries link live told f),
)

-- those of all files, by group and index (libwild: `finalise_symbol_sizes`)
abbrev pub symbol_sizes : ℕ → LinkInput → Live → List Bool → List (FileId × ℕ × ℕ × ℕ)
symbol_sizes entry link live told = map (file_symbol_sizes entry link live told) (numbered_files link.groups)
