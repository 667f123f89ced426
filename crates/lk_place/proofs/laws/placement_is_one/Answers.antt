use Rattle.lk_place.proofs.WalkLaws.{placement_is_one}
use Rattle.lk_place.proofs.laws.placement_is_one.Goals as goal

pub returns : goal.returns
returns c = placement_is_one
