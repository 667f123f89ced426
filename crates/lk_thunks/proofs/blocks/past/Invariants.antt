use Rattle.std.proofs.Common.{◌≡◌, ◌+◌, ◌≤◌, drop, length}
use Rattle.std.specs.List.{prefix_len}
use Rattle.lk_thunks.specs.Blocks.{ends_in}
use Rattle.lk_thunks.proofs.blocks.past.Given as goal

-- those so far end in range
abbrev pub invariant-loop-index : goal.invariant-loop-index
invariant-loop-index l =
    (l.initial.from ≤ l.index) × (l.index ≤ length l.objects)
    × (l.index + prefix_len (ends_in l.range l.address) (drop l.index l.objects) ≡ l.initial.from + prefix_len (ends_in l.range l.address) (drop l.initial.from l.objects))
