use Rattle.lk_map.proofs.Goodness.{congruent_everywhere}
use Rattle.lk_map.proofs.laws.good_maps_are_congruent.Goals as goal

pub returns : goal.returns
returns c = congruent_everywhere
