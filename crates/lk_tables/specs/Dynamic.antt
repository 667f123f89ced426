-- The dynamic symbol table: which symbols have entries, in which order, and with which numbers.
use Rattle.std.specs.Prelude.{ℕ, ◌+◌, ◌==◌, ◌&&◌, Bool, true, false, if◌then◌else◌, List, [], ◌∷◌, ◌++◌, Option, Some, None, filter, map}
use Rattle.std.specs.List.{flat_map}
use Rattle.lk_link.specs.declared.file.FileKind.{FileKind}
use Rattle.lk_link.specs.declared.file.FileKind.TheVariants as kind
use Rattle.lk_link.specs.declared.flags.TheConstants.ValueFlags as flag
use Rattle.lk_link.specs.declared.link.LinkInput.{LinkInput}
use Rattle.lk_link.specs.declared.symbol.InputSymbol.{InputSymbol}
use Rattle.lk_link.specs.declared.symbol.SymbolPlacement.{SymbolPlacement}
use Rattle.lk_link.specs.declared.symbol.SymbolPlacement.TheVariants as at
use Rattle.lk_link.specs.Files.{first_some}
use Rattle.lk_link.specs.Flags.{has_flag}
use Rattle.lk_link.specs.Inputs.{NumberedFile, numbered_files}
use Rattle.lk_link.specs.OutputKinds.{is_loaded_dynamically}
use Rattle.lk_live.specs.declared.live.Live.{Live}
use Rattle.lk_link.specs.Symbols.{is_canonical, is_wanted}
use Rattle.lk_tables.specs.Late.{flags_at, late_flags}
use Rattle.lk_tables.specs.SymbolTable.{symbols_by_number}

-- ---- which symbols

-- whether the dynamic linker gives the value of a symbol of a file, with its number, and it has a resolution, late marks included
abbrev pub is_dynamic_symbol : LinkInput → Live → List Bool → NumberedFile → ℕ × InputSymbol → Bool
is_dynamic_symbol link live told f q =
    let flags = late_flags link told f.file.kind q.0 q.1 (flags_at live.flags q.0) in
    is_wanted f.file.kind q.0 q.1 flags && has_flag flag.DYNAMIC.0 flags.0

-- whether a placement is an expression
abbrev pub is_redirect : SymbolPlacement → Bool
is_redirect (at.Redirect e l provide) = true
is_redirect _ = false

-- whether a file of a kind exports a symbol with its number and these flags: an object and a script one that stands for itself and is told
-- to the dynamic linker, the prelude one that stands for itself and is an expression
abbrev pub exports : FileKind → ℕ → InputSymbol → ℕ → Bool
exports kind.Object s x flags = is_canonical s x && has_flag flag.EXPORT_DYNAMIC.0 flags
exports kind.LinkerScript s x flags = is_canonical s x && has_flag flag.EXPORT_DYNAMIC.0 flags
exports kind.Prelude s x flags = is_canonical s x && is_redirect x.at
exports _ s x flags = false

-- the same for a symbol of a file, with its number
abbrev pub is_export : Live → NumberedFile → ℕ × InputSymbol → Bool
is_export live f q = exports f.file.kind q.0 q.1 (flags_at live.flags q.0).0

-- ---- the table

-- the numbers of the symbols that pass, file by file
abbrev pub numbers_where : (NumberedFile → ℕ × InputSymbol → Bool) → LinkInput → List ℕ
numbers_where p link = flat_map (λ f. map (λ q. q.0) (filter (p f) (symbols_by_number link f))) (numbered_files link.groups)

-- whose the entries of the dynamic symbol table are, behind its first one: the dynamic symbols of the files, and then what is exported, by
-- number; there is a table where a dynamic linker loads the output (libwild: `EpilogueLayoutState`)
abbrev pub dynamic_table : LinkInput → Live → List Bool → List ℕ
dynamic_table link live told =
    if is_loaded_dynamically link.options.output
    then numbers_where (is_dynamic_symbol link live told) link ++ numbers_where (is_export live) link
    else []

-- ---- indexes

-- the number of the last of some entries that is this symbol's, if one is; the first of them has number k
unfoldable pub index_from : ℕ → ℕ → List ℕ → Option ℕ
index_from s k [] = None
index_from s k (t ∷ table) = first_some (index_from s (k + 1) table) (if t == s then Some k else None)

-- a symbol's number in the dynamic symbol table, by whose its entries are; the table's own has number 0
abbrev pub dynamic_index : List ℕ → ℕ → Option ℕ
dynamic_index table s = index_from s 1 table
