use Rattle.std.proofs.Common.{length, ◌-◌}
use Rattle.std.specs.BinaryHeap.{heap_items}
use Rattle.lk_map.proofs.Opening.{OpensSo}
use Rattle.lk_map.proofs.sweep.open_up_to.Given as goal

abbrev pub invariant-loop-now : goal.invariant-loop-now
invariant-loop-now l = OpensSo l.offers l.next l.now l.need (heap_items l.initial.heap) (heap_items l.heap)

abbrev pub decreases-loop-now : goal.decreases-loop-now
decreases-loop-now l = length l.offers - l.now
