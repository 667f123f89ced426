use Rattle.std.proofs.Common.{◌≡◌, ◌+◌, ◌-◌, List, length}
use Rattle.lk_merge.specs.OffsetMapTables.{AreStarts}
use Rattle.lk_merge.specs.declared.offset_map.PieceEntry.{PieceEntry}
use Rattle.lk_merge.proofs.offset_map.Starts.begin.Given as goal

-- the blocks so far are begun, with all pieces before them
abbrev pub invariant-loop-self : goal.invariant-loop-self
invariant-loop-self l = (pieces : List PieceEntry) → AreStarts pieces l.initial.self → AreStarts pieces l.self × (l.before ≡ length pieces)

abbrev pub decreases-loop-self : goal.decreases-loop-self
decreases-loop-self l = l.block + 1 - length l.self.blocks.items
