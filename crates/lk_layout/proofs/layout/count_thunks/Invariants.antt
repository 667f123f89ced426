use Rattle.std.proofs.Common.{◌≡◌, ◌+◌, ◌-◌, ◌^◌, ◌<◌, drop, length, min, sum_by}
use Rattle.lk_layout.proofs.layout.count_thunks.Given as goal

-- the thunks so far, with those of the blocks that are left, are all
abbrev pub invariant-loop-block : goal.invariant-loop-block
invariant-loop-block l =
    (l.count < 2 ^ 64)
    × (min (l.count + sum_by (λ b. length b.symbols) (drop l.block-index l.blocks)) (2 ^ 64 - 1) ≡ min (sum_by (λ b. length b.symbols) l.blocks) (2 ^ 64 - 1))
