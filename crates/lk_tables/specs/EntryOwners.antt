-- Whose the entries of the tables of symbols are, and what each takes.
use Rattle.std.specs.Prelude.{◌≡◌, ℕ, ◌+◌, ◌<◌, ◌&&◌, ◌||◌, not, Bool, true, false, if◌then◌else◌, List, Option, Some, None, length, slice_get}
use Rattle.lk_link.specs.declared.ids.FileId.{FileId}
use Rattle.lk_link.specs.declared.link.LinkInput.{LinkInput}
use Rattle.lk_link.specs.declared.symbol.InputSymbol.{InputSymbol}
use Rattle.lk_link.specs.Inputs.{Input, NumberedFile}
use Rattle.lk_link.specs.Marks.{is_marked}
use Rattle.lk_link.specs.OutputKinds.{is_loaded_dynamically, is_partial}
use Rattle.lk_link.specs.TableSizes.{TableSizes}
use Rattle.lk_link.specs.WellFormed.{IsWellFormed}
use Rattle.lk_live.specs.declared.live.Live.{Live}
use Rattle.lk_reach.specs.Units.{numbered_symbols}
use Rattle.lk_tables.specs.Dynamic.{is_dynamic_symbol, is_export}
use Rattle.lk_tables.specs.ShareWords.{has_entry_there}
use Rattle.lk_tables.specs.Singletons.{singletons}
use Rattle.lk_tables.specs.SymbolEntries.{allocated, is_resolved}
use Rattle.lk_tables.specs.SymbolTable.{FileEntry, FirstEntry, InputEntry, SectionEntry, SegmentEntry, SymbolEntry, TableEntry, TableOwner, first_entry, is_local_entry}
use Rattle.lk_tables.specs.TableLists.{TableLists, whole_tables}

-- ---- one entry

-- so many bytes are those of the symbol of the link with this number: it passes, and takes as many
pub record AreOfSymbol (link : LinkInput) (passes : NumberedFile → ℕ × InputSymbol → Bool) (takes : ℕ × InputSymbol → ℕ) (s : ℕ) (bytes : ℕ) : Type 0 where
  pub file : NumberedFile
  pub symbol : InputSymbol
  pub there : slice_get (numbered_symbols link.groups) s ≡ Some (file, symbol)
  pub passing : passes file (s, symbol) ≡ true
  pub taken : bytes ≡ takes (s, symbol)

-- so many bytes of a table of symbols are its owner's: those of the table itself, where it has some, those of a symbol of the link that
-- passes, or what those of others have to be
abbrev pub AreOwners : LinkInput → Option ℕ → (ℕ → TableOwner → Type 0) → (NumberedFile → ℕ × InputSymbol → Bool) → (ℕ × InputSymbol → ℕ) → ℕ
    → TableOwner → Type 0
AreOwners link own others passes takes bytes FirstEntry = own ≡ Some bytes
AreOwners link own others passes takes bytes (SymbolEntry s) = AreOfSymbol link passes takes s bytes
AreOwners link own others passes takes bytes FileEntry = others bytes FileEntry
AreOwners link own others passes takes bytes (SegmentEntry i) = others bytes (SegmentEntry i)
AreOwners link own others passes takes bytes (SectionEntry s) = others bytes (SectionEntry s)
AreOwners link own others passes takes bytes (InputEntry f i) = others bytes (InputEntry f i)

-- so it is of each entry
abbrev pub EachHasOwner : LinkInput → Option ℕ → (ℕ → TableOwner → Type 0) → (NumberedFile → ℕ × InputSymbol → Bool) → (ℕ × InputSymbol → ℕ)
    → List TableEntry → Type 0
EachHasOwner link own others passes takes entries =
    (k : ℕ) (e : TableEntry) → slice_get entries k ≡ Some e → AreOwners link own others passes takes e.bytes e.owner

-- nothing else has an entry
abbrev pub no_other : ℕ → TableOwner → Type 0
no_other bytes o = ⊥

-- ---- sections

-- an output section has a symbol: in output that is linked again, where there is a symbol table and its edges are told
pub record HasSectionSymbol (link : LinkInput) (told : List Bool) (s : ℕ) : Type 0 where
  pub again : is_partial link.options.output ≡ true
  pub kept : link.options.strip_all ≡ false
  pub inside : s < length link.plan.sections
  pub marked : is_marked told s ≡ true

-- an input section has one: where there is a symbol table and it is a singleton
pub record HasSingletonSymbol (link : LinkInput) (live : Live) (id : FileId) (i : ℕ) : Type 0 where
  pub kept : link.options.strip_all ≡ false
  pub input : Input
  pub place : ℕ
  pub there : slice_get (singletons link live) place ≡ Some input
  pub file : input.file ≡ id
  pub index : input.index ≡ i

-- so many bytes are those of the symbol of a section, all equally long
abbrev pub AreOfSection : ℕ → LinkInput → Live → List Bool → ℕ → TableOwner → Type 0
AreOfSection entry link live told bytes (SectionEntry s) = HasSectionSymbol link told s × (bytes ≡ entry)
AreOfSection entry link live told bytes (InputEntry id i) = HasSingletonSymbol link live id i × (bytes ≡ entry)
AreOfSection entry link live told bytes _ = ⊥

-- ---- the tables

-- the bytes of a table's own entry, where there is a table
abbrev pub own_if : Bool → ℕ → Option ℕ
own_if there bytes = if there then Some bytes else None

-- those of a symbol's name, with a zero byte behind it
abbrev pub name_size : ℕ × InputSymbol → ℕ
name_size q = length q.1.name + 1

-- whether a symbol of a file has an entry in the dynamic symbol table, and there is one
abbrev pub is_in_dynamic : LinkInput → Live → List Bool → NumberedFile → ℕ × InputSymbol → Bool
is_in_dynamic link live told f q = is_loaded_dynamically link.options.output && (is_dynamic_symbol link live told f q || is_export live f q)

-- an entry of got or plt is that of a symbol with a resolution, and as long as the symbol's flags ask for; one of the symbol tables is the
-- table's own, that of a symbol that is copied, or among the local ones that of a section, all equally long; one of their names is as long
-- as its name; and likewise in the dynamic one, for the dynamic symbols and those that are exported
pub record EntriesHaveOwners (sizes : TableSizes) (link : LinkInput) (live : Live) (told : List Bool) (lists : TableLists) : Type 0 where
  pub got : EachHasOwner link None no_other (λ f. is_resolved live f.file.kind) (λ q. (allocated sizes.allocation live q).got) lists.got
  pub plt : EachHasOwner link None no_other (λ f. is_resolved live f.file.kind) (λ q. (allocated sizes.allocation live q).plt) lists.plt
  pub symtab_local : EachHasOwner link (own_if (not link.options.strip_all) sizes.symbol_entry) (AreOfSection sizes.symbol_entry link live told)
      (λ f q. has_entry_there link live told f q && is_local_entry f.file.kind q) (λ q. sizes.symbol_entry) lists.symtab_local
  pub symtab_global : EachHasOwner link None no_other
      (λ f q. has_entry_there link live told f q && not (is_local_entry f.file.kind q)) (λ q. sizes.symbol_entry) lists.symtab_global
  pub strtab : EachHasOwner link (own_if (not link.options.strip_all) 1) no_other (has_entry_there link live told) name_size lists.strtab
  pub dynsym : EachHasOwner link (own_if (is_loaded_dynamically link.options.output) sizes.symbol_entry) no_other
      (is_in_dynamic link live told) (λ q. sizes.symbol_entry) lists.dynsym
  pub dynstr : EachHasOwner link (own_if (is_loaded_dynamically link.options.output) 1) no_other (is_in_dynamic link live told) name_size lists.dynstr

-- so it is of the whole tables
abbrev pub EntriesAreOwned : Type 0
EntriesAreOwned = (sizes : TableSizes) (link : LinkInput) (live : Live) (told emitted : List Bool) (active : List ℕ)
    → EntriesHaveOwners sizes link live told (whole_tables sizes link live told emitted active)

-- ---- the table's own

-- a table has its own entry first, so many bytes long, and no other one
pub record BeginsWithOwn (bytes : ℕ) (entries : List TableEntry) : Type 0 where
  pub first : slice_get entries 0 ≡ Some (first_entry bytes)
  pub only : (k : ℕ) (e : TableEntry) → slice_get entries k ≡ Some e → e.owner ≡ FirstEntry → k ≡ 0

-- in a well-formed link, which has one prelude, so does each of the four that has one, where there is such a table
pub record TablesBegin (sizes : TableSizes) (link : LinkInput) (lists : TableLists) : Type 0 where
  pub symtab_local : link.options.strip_all ≡ false → BeginsWithOwn sizes.symbol_entry lists.symtab_local
  pub strtab : link.options.strip_all ≡ false → BeginsWithOwn 1 lists.strtab
  pub dynsym : is_loaded_dynamically link.options.output ≡ true → BeginsWithOwn sizes.symbol_entry lists.dynsym
  pub dynstr : is_loaded_dynamically link.options.output ≡ true → BeginsWithOwn 1 lists.dynstr

abbrev pub TablesBeginWithOwn : Type 0
TablesBeginWithOwn = (sizes : TableSizes) (link : LinkInput) (live : Live) (told emitted : List Bool) (active : List ℕ) → IsWellFormed link
    → TablesBegin sizes link (whole_tables sizes link live told emitted active)
