use Rattle.std.proofs.Common.{take}
use Rattle.std.specs.BinaryHeap.{heap_items}
use Rattle.lk_map.specs.Sweep.{IsLeast, IsOpenFor}
use Rattle.lk_map.proofs.sweep.least_unheld.Given as goal

abbrev pub invariant-loop-need : goal.invariant-loop-need
invariant-loop-need l = IsOpenFor l.offers l.next l.needs l.need-index (heap_items l.heap) × IsLeast l.offers (take l.need-index l.needs) l.least
