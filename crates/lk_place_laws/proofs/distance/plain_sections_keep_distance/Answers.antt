use Rattle.lk_place_laws.proofs.SectionDistances.{plain_sections_keep_distance}
use Rattle.lk_place_laws.proofs.distance.plain_sections_keep_distance.Goals as goal

pub returns : goal.returns
returns c = plain_sections_keep_distance
