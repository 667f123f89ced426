use Rattle.std.proofs.Common.{length}
use Rattle.lk_pieces.proofs.pieces.seems_within.Given as goal

abbrev pub decreases-blanks : goal.decreases-blanks
decreases-blanks l = length l.rest
