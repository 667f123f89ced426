use Rattle.std.proofs.Common.{◌≡◌, ◌^◌, min, take}
use Rattle.lk_sizes.specs.ThunkSums.{block_bytes}
use Rattle.lk_sizes.proofs.blocks.block_bytes.Given as goal

-- what the blocks so far take; sums are told apart below 2^64
abbrev pub invariant-loop-owner : goal.invariant-loop-owner
invariant-loop-owner l = min l.sum (2 ^ 64) ≡ min (block_bytes l.part (take l.owner-index l.thunk_owners)) (2 ^ 64)
