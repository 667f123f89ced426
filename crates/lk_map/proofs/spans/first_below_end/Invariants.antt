use Rattle.lk_map.specs.Sorted.{NeighboursApart}
use Rattle.lk_map.proofs.spans.first_below_end.Given as goal

abbrev pub invariant-loop-place : goal.invariant-loop-place
invariant-loop-place l = NeighboursApart l.spans l.place
