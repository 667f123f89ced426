use Rattle.std.proofs.Common.{◌≡◌, ℕ, ◌<◌, ◌||◌, length, map}
use Rattle.std.specs.List.{list_any}
use Rattle.lk_link.specs.Marks.{is_marked}
use Rattle.lk_link.specs.Walks.{file_of}
use Rattle.lk_live.specs.KeptParts.{script_keeps}
use Rattle.lk_live.proofs.named.keep_named.Given as goal

-- what the files so far keep is kept, with what was kept before
abbrev pub invariant-loop-file : goal.invariant-loop-file
invariant-loop-file l =
    (length l.kept.items ≡ length l.fn.kept.items)
    × ((o : ℕ) → o < length l.fn.kept.items
    → is_marked l.kept.items o ≡ (is_marked l.fn.kept.items o || list_any (script_keeps l.link l.marks o) (map file_of l.yielded)))
