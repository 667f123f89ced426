use Rattle.lk_sizes.proofs.CommonOnes.{commons_rise}
use Rattle.lk_size_laws.proofs.laws.commons_rise.Goals as goal

pub returns : goal.returns
returns c = commons_rise
