use Rattle.std.proofs.Common.{◌≡◌, ℕ, ◌<◌, length, map}
use Rattle.std.specs.List.{list_any}
use Rattle.lk_link.specs.Marks.{is_marked}
use Rattle.lk_link.specs.Symbols.{all_symbols}
use Rattle.lk_link.specs.Walks.{input_of}
use Rattle.lk_live.specs.PrimaryMarks.{names_primary, primary_symbols}
use Rattle.lk_live.proofs.primary.primary_references.Given as goal

-- what the live sections so far name is marked
abbrev pub invariant-loop-input : goal.invariant-loop-input
invariant-loop-input l =
    (length l.marks.items ≡ length (all_symbols l.link.groups))
    × ((s : ℕ) → s < length l.marks.items → is_marked l.marks.items s ≡ list_any (names_primary l.link (primary_symbols l.link) s) (map input_of l.yielded))
