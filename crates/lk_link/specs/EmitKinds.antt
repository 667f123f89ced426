-- When output sections are emitted.
use Rattle.std.specs.Prelude.{Bool, true, false}
use Rattle.lk_link.specs.declared.plan.Emit.{Emit}
use Rattle.lk_link.specs.declared.plan.Emit.TheVariants as emit

-- whatever is kept of it
abbrev pub is_always : Emit → Bool
is_always emit.Always = true
is_always _ = false

-- not even where something of it is kept
abbrev pub is_never : Emit → Bool
is_never emit.Never = true
is_never _ = false
