use Rattle.lk_pieces.proofs.Joining.{joins}
use Rattle.lk_pieces.proofs.laws.pieces_join.Goals as goal

pub returns : goal.returns
returns c = joins c.args.first.now c.args.second.now
