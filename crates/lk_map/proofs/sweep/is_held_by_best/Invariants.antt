use Rattle.std.proofs.Common.{length}
use Rattle.std.specs.BinaryHeap.{heap_items}
use Rattle.lk_map.specs.Sweep.{LetsGo}
use Rattle.lk_map.proofs.sweep.is_held_by_best.Given as goal

abbrev pub invariant-loop-x : goal.invariant-loop-x
invariant-loop-x l = LetsGo l.need (heap_items l.initial.heap) (heap_items l.heap)

abbrev pub decreases-loop-x : goal.decreases-loop-x
decreases-loop-x l = length (heap_items l.heap)
