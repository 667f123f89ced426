use Rattle.lk_place.proofs.PartEvents.{others_are_nowhere}
use Rattle.lk_place.proofs.laws.others_are_nowhere.Goals as goal

pub returns : goal.returns
returns c = others_are_nowhere
