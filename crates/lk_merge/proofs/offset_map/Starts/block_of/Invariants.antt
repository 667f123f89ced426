use Rattle.std.proofs.Common.{◌<◌, ◌≤◌, ◌-◌, List, length}
use Rattle.lk_merge.specs.OffsetMapTables.{AreStarts}
use Rattle.lk_merge.specs.declared.offset_map.PieceEntry.{PieceEntry}
use Rattle.lk_merge.proofs.StartLemmas.{IsIn}
use Rattle.lk_merge.proofs.offset_map.Starts.block_of.Given as goal

-- the piece starts in one of the blocks from `low` on, before `high`
abbrev pub invariant-loop-high : goal.invariant-loop-high
invariant-loop-high l = (l.low < l.high) × (l.high ≤ length l.self.blocks.items) × ((pieces : List PieceEntry) → AreStarts pieces l.self → IsIn pieces l.index l.low l.high)

abbrev pub decreases-loop-high : goal.decreases-loop-high
decreases-loop-high l = l.high - l.low
