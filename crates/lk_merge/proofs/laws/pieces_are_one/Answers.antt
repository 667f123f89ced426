use Rattle.lk_merge.proofs.PieceLemmas.{pieces_are_one}
use Rattle.lk_merge.proofs.laws.pieces_are_one.Goals as goal

pub returns : goal.returns
returns c = pieces_are_one
