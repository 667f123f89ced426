use Rattle.std.proofs.Common.{length}
use Rattle.lk_pieces.proofs.ListLaws.{SoFar}
use Rattle.lk_pieces.proofs.element.read_items.Given as goal

abbrev pub invariant-items : goal.invariant-items
invariant-items g l = SoFar g.T.Element.described l.depth l.fn.reader l.fn.items.items l.items.items l.reader

abbrev pub decreases-items : goal.decreases-items
decreases-items g l = length l.reader
