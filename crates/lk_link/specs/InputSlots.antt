-- What the description says of input sections.
use Rattle.std.specs.Prelude.{Bool, true, false}
use Rattle.lk_link.specs.declared.section.InputSlot.{InputSlot}
use Rattle.lk_link.specs.declared.section.InputSlot.TheVariants as slot

-- left out, whatever refers to it
abbrev pub is_discarded : InputSlot → Bool
is_discarded slot.Discard = true
is_discarded _ = false

-- its equal strings or constants are kept once
abbrev pub is_merge : InputSlot → Bool
is_merge slot.Merge = true
is_merge _ = false

-- loaded for what it holds, and neither debug data nor merged: kept, or kept if something refers to it
abbrev pub is_regular : InputSlot → Bool
is_regular slot.Unloaded = true
is_regular slot.MustLoad = true
is_regular _ = false

-- loaded for what it holds without being asked for
abbrev pub is_must : InputSlot → Bool
is_must slot.MustLoad = true
is_must _ = false

-- debug data
abbrev pub is_debug : InputSlot → Bool
is_debug slot.DebugInfo = true
is_debug slot.MustLoadDebugInfo = true
is_debug _ = false

-- can be kept as a whole: neither left out nor merged
abbrev pub can_be_kept : InputSlot → Bool
can_be_kept slot.Discard = false
can_be_kept slot.Merge = false
can_be_kept _ = true
