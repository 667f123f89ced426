use Rattle.lk_merge.proofs.Locating.{pieces_are_located}
use Rattle.lk_merge.proofs.laws.pieces_are_located.Goals as goal

pub returns : goal.returns
returns c = pieces_are_located
