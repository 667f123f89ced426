-- Symbols of the prelude that are marked late: when it is known which output sections are emitted.
use Rattle.std.specs.Prelude.{ℕ, ◌==◌, ◌&&◌, not, Bool, true, false, bit_or, if◌then◌else◌, List}
use Rattle.std.specs.List.{slice_index_or}
use Rattle.lk_link.specs.declared.file.FileKind.{FileKind}
use Rattle.lk_link.specs.declared.flags.TheConstants.ValueFlags as flag
use Rattle.lk_link.specs.declared.flags.ValueFlags.{ValueFlags}
use Rattle.lk_link.specs.declared.link.LinkInput.{LinkInput}
use Rattle.lk_link.specs.declared.symbol.InputSymbol.{InputSymbol}
use Rattle.lk_link.specs.declared.symbol.SymbolPlacement.{SymbolPlacement}
use Rattle.lk_link.specs.declared.symbol.SymbolPlacement.TheVariants as at
use Rattle.lk_link.specs.FileKinds.{is_prelude}
use Rattle.lk_link.specs.Flags.{has_resolution}
use Rattle.lk_link.specs.Marks.{is_marked}
use Rattle.lk_reach.specs.Units.{flags_from}
use Rattle.lk_link.specs.Symbols.{is_canonical, is_named}

-- the flags of a symbol by its number, by those of all symbols; none past the end
abbrev pub flags_at : List ValueFlags → ℕ → ValueFlags
flags_at flags s = slice_index_or flags s (flags_from 0)

-- whether a symbol placed so is told where these sections are emitted: one that is wanted all the same, or at the start or the end of an
-- emitted section; the start of section 0 isn't
abbrev pub is_late_place : List Bool → SymbolPlacement → Bool
is_late_place told at.ForceUndefined = true
is_late_place told (at.SectionStart s) = not (s == 0) && is_marked told s
is_late_place told (at.SectionEnd s) = is_marked told s
is_late_place told (at.SectionGroupEnd s) = is_marked told s
is_late_place told _ = false

-- whether a symbol of a file of a kind, with its number and these flags, is marked late: one of the prelude with a name, that stands for
-- itself and that nothing wants so far, where there is a symbol table and it is told there
abbrev pub is_late : LinkInput → List Bool → FileKind → ℕ → InputSymbol → ValueFlags → Bool
is_late link told kind s x flags =
    is_prelude kind && is_named x && is_canonical s x && not (has_resolution flags.0) && not link.options.strip_all
    && is_late_place told x.at

-- its flags, late ones included: one that is marked late is referred to directly
abbrev pub late_flags : LinkInput → List Bool → FileKind → ℕ → InputSymbol → ValueFlags → ValueFlags
late_flags link told kind s x flags =
    if is_late link told kind s x flags then flags_from (bit_or flags.0 flag.DIRECT.0) else flags
