-- What kind of file is made.
use Rattle.std.specs.Prelude.{Bool, true, false}
use Rattle.lk_link.specs.declared.options.OutputKind.{OutputKind}
use Rattle.lk_link.specs.declared.options.OutputKind.TheVariants as output

-- an object file again
abbrev pub is_partial : OutputKind → Bool
is_partial output.Partial = true
is_partial _ = false

-- loaded by a dynamic linker
abbrev pub is_loaded_dynamically : OutputKind → Bool
is_loaded_dynamically output.DynamicExecutable = true
is_loaded_dynamically output.SharedObject = true
is_loaded_dynamically _ = false
