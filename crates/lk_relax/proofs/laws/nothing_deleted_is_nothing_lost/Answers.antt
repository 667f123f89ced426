use Rattle.std.proofs.Common.{refl}
use Rattle.lk_sizes.specs.Owners.{own_sizes}
use Rattle.lk_relax.proofs.laws.nothing_deleted_is_nothing_lost.Goals as goal

pub returns : goal.returns
unfolding own_sizes
returns c = λ link. refl
