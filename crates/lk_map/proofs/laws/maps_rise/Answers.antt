use Rattle.lk_map.proofs.Reading.{maps_rise}
use Rattle.lk_map.proofs.laws.maps_rise.Goals as goal

pub returns : goal.returns
returns c = maps_rise
