use Rattle.std.proofs.Common.{◌≡◌, ℕ, ◌<◌, ◌||◌, length, take}
use Rattle.std.specs.List.{enumerate_from, list_any}
use Rattle.lk_link.specs.Marks.{is_marked}
use Rattle.lk_live.specs.KeptParts.{names_output}
use Rattle.lk_live.proofs.named.keep_by_symbols.Given as goal

-- what the symbols so far keep is kept, with what was kept before
abbrev pub invariant-loop-index : goal.invariant-loop-index
invariant-loop-index l =
    (length l.kept.items ≡ length l.initial.kept.items)
    × ((o : ℕ) → o < length l.initial.kept.items
    → is_marked l.kept.items o ≡ (is_marked l.initial.kept.items o || list_any (names_output l.marks o) (enumerate_from l.first (take l.index l.symbols))))
