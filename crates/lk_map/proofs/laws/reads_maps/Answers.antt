use Rattle.lk_map.proofs.WrittenMaps.{reads_maps}
use Rattle.lk_map.proofs.laws.reads_maps.Goals as goal

pub returns : goal.returns
returns c = reads_maps
