use Rattle.std.proofs.Common.{◌≡◌, take}
use Rattle.lk_deltas.specs.DeltaWords.{ranges_of}
use Rattle.lk_deltas.proofs.deltas.sorted_ranges.Given as goal

abbrev pub invariant-loop-delta : goal.invariant-loop-delta
invariant-loop-delta l = l.ranges.items ≡ ranges_of (take l.delta-index l.deltas)
