use Rattle.lk_place.proofs.Passing.{given_is_carried_out}
use Rattle.lk_place.proofs.laws.given_is_carried_out.Goals as goal

pub returns : goal.returns
returns c = given_is_carried_out
