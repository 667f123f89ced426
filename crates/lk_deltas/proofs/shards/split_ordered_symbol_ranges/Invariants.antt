use Rattle.std.proofs.Common.{drop, map}
use Rattle.lk_deltas.proofs.ShardLemmas.{Cut, items_of}
use Rattle.lk_deltas.proofs.shards.split_ordered_symbol_ranges.Given as goal

abbrev pub invariant-loop-range : goal.invariant-loop-range
invariant-loop-range g l = Cut l.fn.items l.ranges l.cursor l.rest (map items_of l.shards.items) (drop l.range-index l.ranges)
