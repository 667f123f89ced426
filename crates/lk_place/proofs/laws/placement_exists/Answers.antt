use Rattle.lk_place.proofs.WalkLaws.{placement_exists}
use Rattle.lk_place.proofs.laws.placement_exists.Goals as goal

pub returns : goal.returns
returns c = placement_exists
