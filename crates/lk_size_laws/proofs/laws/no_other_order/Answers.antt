use Rattle.lk_sizes.proofs.SortedOnes.{no_other_order}
use Rattle.lk_size_laws.proofs.laws.no_other_order.Goals as goal

pub returns : goal.returns
returns c = no_other_order
