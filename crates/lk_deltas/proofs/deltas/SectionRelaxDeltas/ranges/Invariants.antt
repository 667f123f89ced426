use Rattle.std.proofs.Common.{◌≡◌, take}
use Rattle.lk_deltas.specs.DeltaWords.{ranges_of}
use Rattle.lk_deltas.proofs.deltas.SectionRelaxDeltas.ranges.Given as goal

-- the ranges so far
abbrev pub invariant-loop-delta : goal.invariant-loop-delta
invariant-loop-delta l = l.ranges.items ≡ ranges_of (take l.delta-index l.delta-items)
