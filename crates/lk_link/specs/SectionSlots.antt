-- What becomes of input sections.
use Rattle.std.specs.Prelude.{Bool, true, false}
use Rattle.lk_link.specs.declared.section.SectionSlot.{SectionSlot}
use Rattle.lk_link.specs.declared.section.SectionSlot.TheVariants as slot

-- whether its bytes stand in the output (libwild: `SectionSlot::is_loaded`)
abbrev pub is_loaded : SectionSlot → Bool
is_loaded (slot.LoadedDebugInfo s) = true
is_loaded (slot.Loaded s) = true
is_loaded (slot.Sorted s) = true
is_loaded slot.MergeStrings = true
is_loaded (slot.PartialLinkSingleton s) = true
is_loaded _ = false
