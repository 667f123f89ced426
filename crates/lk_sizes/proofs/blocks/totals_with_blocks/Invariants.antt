use Rattle.std.proofs.Common.{take}
use Rattle.lk_sizes.specs.ThunkSums.{AreWithBlocks}
use Rattle.lk_sizes.proofs.blocks.totals_with_blocks.Given as goal

-- the totals so far are with what blocks bring
abbrev pub invariant-loop-number : goal.invariant-loop-number
invariant-loop-number l = AreWithBlocks l.link l.thunk_owners (take l.number l.contents) l.totals.items
