use Rattle.lk_place.proofs.ShallowLinks.{shallow_link}
use Rattle.lk_place.proofs.laws.expressions_are_shallow.Goals as goal

pub returns : goal.returns
returns c = shallow_link
