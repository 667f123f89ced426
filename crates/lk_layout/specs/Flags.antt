-- The flags of symbols as a layout keeps them: late marks are among them.
use Rattle.std.specs.Prelude.{ℕ, Bool, List, map}
use Rattle.std.specs.List.{enumerate_from}
use Rattle.std.specs.Option.{option_map_or}
use Rattle.lk_link.specs.declared.flags.ValueFlags.{ValueFlags}
use Rattle.lk_link.specs.declared.link.LinkInput.{LinkInput}
use Rattle.lk_link.specs.NumberedSymbols.{numbered_symbol}
use Rattle.lk_sizes.specs.Emitted.{told_marks}
use Rattle.lk_tables.specs.Late.{late_flags}
use Rattle.lk_layout.specs.Made.{Made, made_content}

-- the flags of a symbol, by its number and those that the traversal sets, with its late mark, if it gets one by the sections whose edges
-- are told
abbrev pub marked_flags : LinkInput → List Bool → ℕ × ValueFlags → ValueFlags
marked_flags link told q = option_map_or (λ r. late_flags link told r.0.file.kind q.0 r.1 q.1) (numbered_symbol link.groups q.0) q.1

-- those of all symbols, by number
abbrev pub all_flags : LinkInput → List Bool → List ValueFlags → List ValueFlags
all_flags link told flags = map (marked_flags link told) (enumerate_from 0 flags)

-- those of a layout
abbrev pub made_flags : Made → List ValueFlags
made_flags made = all_flags made.link (told_marks (made_content made)) made.live.flags
