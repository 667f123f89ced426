-- Kinds of input files.
use Rattle.std.specs.Prelude.{Bool, true, false}
use Rattle.lk_link.specs.declared.file.FileKind.{FileKind}
use Rattle.lk_link.specs.declared.file.FileKind.TheVariants as kind

-- the linker's own file
abbrev pub is_prelude : FileKind → Bool
is_prelude kind.Prelude = true
is_prelude _ = false

-- an object file
abbrev pub is_object : FileKind → Bool
is_object kind.Object = true
is_object _ = false

-- a shared object that the output refers to
abbrev pub is_dynamic : FileKind → Bool
is_dynamic kind.Dynamic = true
is_dynamic _ = false

-- a file that nothing made the linker load
abbrev pub is_not_loaded : FileKind → Bool
is_not_loaded kind.NotLoaded = true
is_not_loaded _ = false

-- symbols that the linker makes
abbrev pub is_synthetic : FileKind → Bool
is_synthetic kind.SyntheticSymbols = true
is_synthetic _ = false

-- a linker script
abbrev pub is_script : FileKind → Bool
is_script kind.LinkerScript = true
is_script _ = false

-- a file whose symbols the linker itself places: the prelude, made symbols, a script
abbrev pub is_internal : FileKind → Bool
is_internal kind.Prelude = true
is_internal kind.SyntheticSymbols = true
is_internal kind.LinkerScript = true
is_internal _ = false
