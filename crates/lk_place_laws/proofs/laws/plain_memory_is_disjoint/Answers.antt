use Rattle.lk_place_laws.proofs.MemoryApart.{plain_memory_is_disjoint}
use Rattle.lk_place_laws.proofs.laws.plain_memory_is_disjoint.Goals as goal

pub returns : goal.returns
returns c = plain_memory_is_disjoint
