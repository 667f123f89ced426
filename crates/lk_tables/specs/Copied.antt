-- Which symbols are copied to the symbol table of the output. Whether one gets a resolution is told with the symbols.
use Rattle.std.specs.Prelude.{ℕ, ◌&&◌, ◌||◌, not, Bool, false, true, codes, if◌then◌else◌, List, Option, Some, None, nat_eq, option_and_then, slice_get}
use Rattle.std.specs.List.{starts_with}
use Rattle.std.specs.Option.{option_map_or}
use Rattle.lk_link.specs.declared.file.FileKind.{FileKind}
use Rattle.lk_link.specs.declared.flags.TheConstants.ValueFlags as flag
use Rattle.lk_link.specs.declared.flags.ValueFlags.{ValueFlags}
use Rattle.lk_link.specs.declared.link.LinkInput.{LinkInput}
use Rattle.lk_link.specs.declared.options.DiscardLocals.{DiscardLocals}
use Rattle.lk_link.specs.declared.options.DiscardLocals.TheVariants as discard
use Rattle.lk_link.specs.declared.symbol.InputSymbol.{InputSymbol}
use Rattle.lk_link.specs.declared.symbol.SymbolPlacement.{SymbolPlacement}
use Rattle.lk_link.specs.FileKinds.{is_internal, is_object}
use Rattle.lk_link.specs.Flags.{has_flag}
use Rattle.lk_link.specs.Inputs.{NumberedFile}
use Rattle.lk_link.specs.Names.{has_name}
use Rattle.lk_link.specs.OutputKinds.{is_partial}
use Rattle.lk_link.specs.SectionSlots.{is_loaded}
use Rattle.lk_link.specs.SymbolPlacements.{is_common, is_in_discarded, is_undefined, section_of}
pub use Rattle.lk_link.specs.Symbols.{can_resolve, is_canonical, is_named, is_wanted}
use Rattle.lk_live.specs.declared.live.Live.{Live}
use Rattle.lk_live.specs.Slots.{live_slot}
use Rattle.lk_reach.specs.Units.{numbered_symbols}

-- ---- symbols of objects

-- whether a symbol is copied though it is local: it names a section group, or the output is linked again and it has a resolution
abbrev pub is_must : LinkInput → FileKind → ℕ → InputSymbol → ValueFlags → Bool
is_must link kind s x flags =
    has_flag flag.GROUP_SIGNATURE.0 flags.0 || (is_partial link.options.output && is_wanted kind s x flags)

-- whether a name is one that assemblers give to local symbols
abbrev pub is_assembler_name : List ℕ → Bool
is_assembler_name name = starts_with nat_eq name (codes ".L")

-- whether a symbol stays where local ones are left out: all of them, those with names of assemblers, or none
abbrev pub stays_by : DiscardLocals → InputSymbol → Bool
stays_by discard.All x = not x.local
stays_by discard.Default x = not x.local || not (is_assembler_name x.name)
stays_by discard.None x = true

-- whether the section of a placement in a file, if it is in one, is loaded
abbrev pub is_in_loaded : LinkInput → Live → NumberedFile → SymbolPlacement → Bool
is_in_loaded link live f p = option_map_or (λ i. option_map_or is_loaded (live_slot link live f.id i) false) (section_of p) true

-- whether a symbol of files of a kind stands for something under a name: it stands for itself, is defined and named, and is wanted if it is
-- a common
abbrev pub stands_for_something : FileKind → ℕ → InputSymbol → ValueFlags → Bool
stands_for_something kind s x flags =
    is_canonical s x && not (is_undefined x.at) && is_named x && (is_wanted kind s x flags || not (is_common x.at))

-- whether the options let a symbol stay: it is a must, or isn't left out as a local one; and it names a section group, or its name isn't
-- one of those to be left out
abbrev pub may_stay : LinkInput → FileKind → ℕ → InputSymbol → ValueFlags → Bool
may_stay link kind s x flags =
    (is_must link kind s x flags || stays_by link.options.discard x)
    && (has_flag flag.GROUP_SIGNATURE.0 flags.0 || not (has_name link.options.strip_names x.name))

-- ---- copies

-- whether a symbol of a file, with its number and these flags, is copied: of an object where it stands for something, may stay, and is in no
-- section that isn't loaded; one that the linker places where it is named and wanted; of other files none
abbrev pub is_copied : LinkInput → Live → NumberedFile → ℕ → InputSymbol → ValueFlags → Bool
is_copied link live f s x flags =
    if is_object f.file.kind
    then stands_for_something f.file.kind s x flags && may_stay link f.file.kind s x flags && is_in_loaded link live f x.at
    else is_internal f.file.kind && is_named x && is_wanted f.file.kind s x flags

-- whether it is copied though it has no place: in output that is linked again, where it is named and wanted, and is undefined, or isn't
-- local and stands in a discarded section
abbrev pub is_copied_undefined : LinkInput → NumberedFile → ℕ → InputSymbol → ValueFlags → Bool
is_copied_undefined link f s x flags =
    is_partial link.options.output && is_named x && is_wanted f.file.kind s x flags
    && (is_undefined x.at || (not x.local && is_in_discarded f.file.sections x.at))

-- the name of the symbol with this number, if there is one that passes
abbrev pub name_where : (NumberedFile → ℕ → InputSymbol → Bool) → LinkInput → ℕ → Option (List ℕ)
name_where p link s =
    option_and_then (λ q. if p q.0 s q.1 then Some q.1.name else None) (slice_get (numbered_symbols link.groups) s)

-- the name under which a symbol with these flags is copied, if it is (libwild: `SymbolCopyInfo::new`)
abbrev pub copied_name : LinkInput → Live → ℕ → ValueFlags → Option (List ℕ)
copied_name link live s flags = name_where (λ f n x. is_copied link live f n x flags) link s

-- the name under which it is copied though it has no place, if it is (libwild: `SymbolCopyInfo::for_undefined`)
abbrev pub undefined_name : LinkInput → ℕ → ValueFlags → Option (List ℕ)
undefined_name link s flags = name_where (λ f n x. is_copied_undefined link f n x flags) link s
