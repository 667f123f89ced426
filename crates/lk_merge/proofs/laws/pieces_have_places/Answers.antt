use Rattle.lk_merge.proofs.PlaceLemmas.{pieces_have_places}
use Rattle.lk_merge.proofs.laws.pieces_have_places.Goals as goal

pub returns : goal.returns
returns c = pieces_have_places
