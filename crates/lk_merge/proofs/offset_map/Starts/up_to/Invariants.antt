use Rattle.std.proofs.Common.{◌-◌, List}
use Rattle.lk_merge.specs.OffsetMapTables.{AreStarts}
use Rattle.lk_merge.specs.OffsetMaps.{StartsRise}
use Rattle.lk_merge.specs.declared.offset_map.PieceEntry.{PieceEntry}
use Rattle.lk_merge.proofs.StartLemmas.{IsHalved}
use Rattle.lk_merge.proofs.offset_map.Starts.up_to.Given as goal

abbrev pub invariant-loop-low : goal.invariant-loop-low
invariant-loop-low l = (pieces : List PieceEntry) → AreStarts pieces l.self → StartsRise pieces → IsHalved pieces l.offset l.low l.high

abbrev pub decreases-loop-low : goal.decreases-loop-low
decreases-loop-low l = l.high - l.low
