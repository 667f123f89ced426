use Rattle.lk_relax.proofs.Staging as proof
use Rattle.lk_relax.proofs.laws.relaxed_is_one.Goals as goal

pub returns : goal.returns
returns c = proof.relaxed_is_one c.placement_is_one.ensures
