-- The entry of a link.
use Rattle.std.specs.Prelude.{ℕ, Option, option_and_then}
use Rattle.lk_link.specs.declared.link.LinkInput.{LinkInput}
use Rattle.lk_link.specs.Symbols.{definition_of}

-- the symbol that stands for the entry, if the options name one
abbrev pub entry_definition : LinkInput → Option ℕ
entry_definition link = option_and_then (definition_of link.groups) link.options.entry
