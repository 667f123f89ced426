use Rattle.std.proofs.Common.{◌≡◌, ℕ, ◌<◌, length, map}
use Rattle.std.specs.List.{slice_index_or}
use Rattle.lk_link.specs.Walks.{input_of}
use Rattle.lk_tables.proofs.GroupLemmas.{counted_of}
use Rattle.lk_tables.proofs.partial_link.count_by_group.Given as goal

-- those of each group so far, and their names
abbrev pub invariant-loop-input : goal.invariant-loop-input
invariant-loop-input l =
    (length l.sizes ≡ length l.link.groups)
    × ((g : ℕ) → g < length l.link.groups → slice_index_or l.sizes g (0, 0) ≡ counted_of l.link g (map input_of l.yielded))
