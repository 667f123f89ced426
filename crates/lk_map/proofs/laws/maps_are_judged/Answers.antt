use Rattle.lk_map.proofs.Verdicts.{maps_are_judged}
use Rattle.lk_map.proofs.laws.maps_are_judged.Goals as goal

pub returns : goal.returns
returns c = maps_are_judged
