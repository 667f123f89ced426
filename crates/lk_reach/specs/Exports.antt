-- Which symbols are told to the dynamic linker.
use Rattle.std.specs.Prelude.{ℕ, ◌&&◌, ◌||◌, not, Bool, true, false, if◌then◌else◌, List, Option, Some, None, option_and_then, is_some}
use Rattle.std.specs.Option.{option_map_or}
use Rattle.lk_link.specs.declared.file.InputFile.{InputFile}
use Rattle.lk_link.specs.declared.flags.TheConstants.ValueFlags as flag
use Rattle.lk_link.specs.declared.flags.ValueFlags.{ValueFlags}
use Rattle.lk_link.specs.declared.ids.FileId.{FileId}
use Rattle.lk_link.specs.declared.link.LinkInput.{LinkInput}
use Rattle.lk_link.specs.declared.options.Options.{Options}
use Rattle.lk_link.specs.declared.options.OutputKind.{OutputKind}
use Rattle.lk_link.specs.declared.options.OutputKind.TheVariants as output
use Rattle.lk_link.specs.declared.section.InputSection.{InputSection}
use Rattle.lk_link.specs.declared.symbol.InputSymbol.{InputSymbol}
use Rattle.lk_link.specs.Files.{file_in}
use Rattle.lk_link.specs.Flags.{has_flag}
use Rattle.lk_link.specs.Names.{has_name}
use Rattle.lk_link.specs.OutputKinds.{is_loaded_dynamically}
use Rattle.lk_link.specs.SymbolPlacements.{is_in_discarded, is_undefined}
use Rattle.lk_link.specs.Symbols.{is_canonical, symbol_at}
use Rattle.lk_reach.specs.declared.exports.ExportSymbolsMode.{ExportSymbolsMode}
use Rattle.lk_reach.specs.declared.exports.ExportSymbolsMode.TheVariants as mode

-- ---- files

-- whether a shared object is made
abbrev pub is_shared : OutputKind → Bool
is_shared output.SharedObject = true
is_shared _ = false

-- whether a shared object exports all of a file: of one that is out of no archive, or whose symbols are exported all the same
abbrev pub is_exported_whole : Options → InputFile → Bool
is_exported_whole options f = is_shared options.output && (not f.archive || f.export)

-- which symbols of a file are exported: all that can be, those of the list, or none
abbrev pub mode_of : Options → InputFile → Option ExportSymbolsMode
mode_of options f =
    if is_exported_whole options f then Some mode.All
    else if is_loaded_dynamically options.output && options.export_all then Some mode.All
    else if is_loaded_dynamically options.output && is_some options.export_list then Some mode.MatchingExportList
    else None

-- the same, for a file by its number; none where there is no such file (libwild: `export_symbols_mode`)
abbrev pub export_mode : LinkInput → FileId → Option ExportSymbolsMode
export_mode link id = option_and_then (mode_of link.options) (file_in link.groups id)

-- ---- symbols

-- whether a symbol with its number is a definition of its own
abbrev pub is_own_definition : ℕ → InputSymbol → Bool
is_own_definition s x = is_canonical s x && not (is_undefined x.at)

-- whether it is seen from outside: neither local nor hidden, nor downgraded by its flags
abbrev pub is_seen_outside : InputSymbol → ValueFlags → Bool
is_seen_outside x flags = not x.local && not x.hidden && not (has_flag flag.DOWNGRADE_LOCAL.0 flags.0)

-- the list that says which names are exported, where one does
abbrev pub list_for : Options → ExportSymbolsMode → Option (List (List ℕ))
list_for options mode.MatchingExportList = options.export_list
list_for options mode.All = if options.restrictive then options.export_list else None

-- whether a list, if there is one, has a name
abbrev pub is_listed : Option (List (List ℕ)) → List ℕ → Bool
is_listed list name = option_map_or (λ names. has_name names name) list true

-- whether a symbol with its number, which has these flags, can be exported, where a list says so
abbrev pub is_exportable : Option (List (List ℕ)) → ℕ → InputSymbol → ValueFlags → Bool
is_exportable list s x flags = is_own_definition s x && is_seen_outside x flags && is_listed list x.name

-- whether a symbol by its number, which has these flags, can be exported (libwild: `can_export_global_def`)
abbrev pub can_export : LinkInput → ℕ → ValueFlags → ExportSymbolsMode → Bool
can_export link s flags m = option_map_or (λ x. is_exportable (list_for link.options m) s x flags) (symbol_at link.groups s) false

-- whether an object with these sections exports a symbol of its own: one that can be, outside discarded sections
abbrev pub is_exported : Option (List (List ℕ)) → List InputSection → ℕ × InputSymbol → Bool
is_exported list sections q = not (is_in_discarded sections q.1.at) && is_exportable list q.0 q.1 q.1.flags
