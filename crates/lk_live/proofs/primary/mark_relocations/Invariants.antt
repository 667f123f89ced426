use Rattle.std.proofs.Common.{◌≡◌, ℕ, ◌<◌, ◌||◌, length, take}
use Rattle.std.specs.List.{list_any}
use Rattle.lk_link.specs.Marks.{is_marked}
use Rattle.lk_live.specs.PrimaryMarks.{names_symbol}
use Rattle.lk_live.proofs.primary.mark_relocations.Given as goal

-- what the relocations so far name is marked
abbrev pub invariant-loop-relocation : goal.invariant-loop-relocation
invariant-loop-relocation l =
    (length l.marks.items ≡ length l.initial.marks.items)
    × ((s : ℕ) → s < length l.initial.marks.items
    → is_marked l.marks.items s ≡ (is_marked l.initial.marks.items s || list_any (names_symbol l.primary l.first l.symbols s) (take l.relocation-index l.relocs)))
