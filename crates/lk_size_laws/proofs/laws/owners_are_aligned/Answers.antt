use Rattle.lk_size_laws.proofs.Tiling.{owners_are_aligned}
use Rattle.lk_size_laws.proofs.laws.owners_are_aligned.Goals as goal

pub returns : goal.returns
returns c = owners_are_aligned
