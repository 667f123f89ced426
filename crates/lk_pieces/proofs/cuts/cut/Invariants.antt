use Rattle.std.proofs.Common.{◌≡◌, length}
use Rattle.lk_pieces.specs.Pieces.{joined, bytes_of}
use Rattle.lk_pieces.proofs.cuts.cut.Given as goal

abbrev pub invariant-pieces : goal.invariant-pieces
invariant-pieces g l = l.text ≡ joined (bytes_of l.pieces.items) l.rest

abbrev pub decreases-pieces : goal.decreases-pieces
decreases-pieces g l = length l.rest
