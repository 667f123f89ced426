-- Words of private contracts: late marks, set one by one.
use Rattle.std.specs.Prelude.{ℕ, ◌+◌, Bool, List, [], ◌∷◌}
use Rattle.std.specs.List.{slice_set}
use Rattle.lk_link.specs.declared.file.FileKind.{FileKind}
use Rattle.lk_link.specs.declared.flags.ValueFlags.{ValueFlags}
use Rattle.lk_link.specs.declared.link.LinkInput.{LinkInput}
use Rattle.lk_link.specs.declared.symbol.InputSymbol.{InputSymbol}
use Rattle.lk_tables.specs.Late.{flags_at, late_flags}

-- flags with the late mark of one symbol of a file of a kind, if it gets one
abbrev pub marked_at : LinkInput → List Bool → FileKind → ℕ → InputSymbol → List ValueFlags → List ValueFlags
marked_at link told kind s x flags = slice_set flags s (late_flags link told kind s x (flags_at flags s))

-- the same for symbols that have the numbers from s on
abbrev pub marked_from : LinkInput → List Bool → FileKind → ℕ → List InputSymbol → List ValueFlags → List ValueFlags
marked_from link told kind s [] flags = flags
marked_from link told kind s (x ∷ xs) flags = marked_from link told kind (s + 1) xs (marked_at link told kind s x flags)
