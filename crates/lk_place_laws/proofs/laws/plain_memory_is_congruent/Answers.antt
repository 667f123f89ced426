use Rattle.lk_place_laws.proofs.CongruenceLaws.{plain_memory_is_congruent}
use Rattle.lk_place_laws.proofs.laws.plain_memory_is_congruent.Goals as goal

pub returns : goal.returns
returns c = plain_memory_is_congruent
