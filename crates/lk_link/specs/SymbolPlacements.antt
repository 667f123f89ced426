-- What symbols stand for.
use Rattle.std.specs.Prelude.{ℕ, Bool, true, false, List, Option, Some, None, slice_get}
use Rattle.std.specs.Option.{option_map_or}
use Rattle.lk_link.specs.declared.section.InputSection.{InputSection}
use Rattle.lk_link.specs.declared.symbol.SymbolPlacement.{SymbolPlacement}
use Rattle.lk_link.specs.declared.symbol.SymbolPlacement.TheVariants as at
use Rattle.lk_link.specs.InputSlots.{is_discarded}

-- bytes of a part that all objects share
abbrev pub is_common : SymbolPlacement → Bool
is_common (at.Common p size) = true
is_common _ = false

-- defined nowhere
abbrev pub is_undefined : SymbolPlacement → Bool
is_undefined at.Undef = true
is_undefined at.Undefined = true
is_undefined at.ForceUndefined = true
is_undefined _ = false

-- the section of its file that it is in
abbrev pub section_of : SymbolPlacement → Option ℕ
section_of (at.Section index offset) = Some index
section_of _ = None

-- whether it is in a section that is discarded, of a file with these sections
abbrev pub is_in_discarded : List InputSection → SymbolPlacement → Bool
is_in_discarded sections p =
    option_map_or (λ i. option_map_or (λ s. is_discarded s.slot) (slice_get sections i) false) (section_of p) false

-- the output section at whose start or end it is, or at the end of it and of those that are secondary to it
abbrev pub edge_of : SymbolPlacement → Option ℕ
edge_of (at.SectionStart o) = Some o
edge_of (at.SectionEnd o) = Some o
edge_of (at.SectionGroupEnd o) = Some o
edge_of _ = None

-- whether it is a redirect that counts only if something wants it
abbrev pub is_provided : SymbolPlacement → Bool
is_provided (at.Redirect e l provide) = provide
is_provided _ = false
