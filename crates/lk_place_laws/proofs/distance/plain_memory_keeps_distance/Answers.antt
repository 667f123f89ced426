use Rattle.lk_place_laws.proofs.DistanceLaws.{plain_memory_keeps_distance}
use Rattle.lk_place_laws.proofs.distance.plain_memory_keeps_distance.Goals as goal

pub returns : goal.returns
returns c = plain_memory_keeps_distance
