use Rattle.std.proofs.Common.{◌≡◌, ◌≤◌, ◌-◌, ◌^◌, ◌++◌, ℕ, List, drop, take}
use Rattle.lk_deltas.specs.declared.deltas.Delta.{Delta}
use Rattle.lk_deltas.specs.Deletions.{RiseWithin}
use Rattle.lk_deltas.specs.DeltaWords.{AreDeltas, ranges_of}
use Rattle.lk_deltas.proofs.deltas.deltas_of.Given as goal

-- the ranges so far are there, and those that are left, with the bytes so far before them, go on behind them
abbrev pub invariant-loop-range : goal.invariant-loop-range
invariant-loop-range l = (ranges_of l.deltas.items ≡ take l.range-index l.ranges)
    × ((low : ℕ) × RiseWithin low (2 ^ 64 - 1) (drop l.range-index l.ranges) × (l.before ≤ low)
    × ((more : List Delta) → AreDeltas low l.before more → AreDeltas 0 0 (l.deltas.items ++ more)))
