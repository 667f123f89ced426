use Rattle.lk_place_laws.proofs.MemoryApart.{memory_ranges_are_disjoint}
use Rattle.lk_place_laws.proofs.laws.memory_ranges_are_disjoint.Goals as goal

pub returns : goal.returns
returns c = memory_ranges_are_disjoint
