use Rattle.lk_merge.proofs.PlaceLemmas.{offsets_have_places}
use Rattle.lk_merge.proofs.laws.offsets_have_places.Goals as goal

pub returns : goal.returns
returns c = offsets_have_places
