use Rattle.lk_place.proofs.Passing.{events_are_carried_out}
use Rattle.lk_place.proofs.laws.events_are_carried_out.Goals as goal

pub returns : goal.returns
returns c = events_are_carried_out
