use Rattle.lk_sizes.proofs.SortedOnes.{sorted_stand_by_name}
use Rattle.lk_size_laws.proofs.laws.sorted_stand_by_name.Goals as goal

pub returns : goal.returns
returns c = sorted_stand_by_name
