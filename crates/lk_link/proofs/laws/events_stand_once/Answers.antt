use Rattle.lk_link.proofs.GoodLinks.{event_in_range, event_once}
use Rattle.lk_link.proofs.laws.events_stand_once.Goals as goal

pub returns : goal.returns
returns c = λ link j k e h at_j at_k. (event_in_range link j e h at_j, λ place. event_once link j k e h place at_j at_k)
