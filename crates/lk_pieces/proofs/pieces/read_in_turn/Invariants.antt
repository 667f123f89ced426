use Rattle.std.proofs.Common.{take}
use Rattle.lk_pieces.specs.Pieces.{bytes_of, Continue}
use Rattle.lk_pieces.proofs.pieces.read_in_turn.Given as goal

abbrev pub invariant-loop-piece : goal.invariant-loop-piece
invariant-loop-piece g l = Continue g.T.Element.described l.depth (bytes_of (take l.piece-index l.pieces)) l.fn.part l.all
