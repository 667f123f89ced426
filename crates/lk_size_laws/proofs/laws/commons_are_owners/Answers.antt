use Rattle.lk_sizes.proofs.CommonOnes.{commons_are_owners}
use Rattle.lk_size_laws.proofs.laws.commons_are_owners.Goals as goal

pub returns : goal.returns
returns c = commons_are_owners
