use Rattle.lk_relax.proofs.Staging as proof
use Rattle.lk_relax.proofs.laws.relaxed_exists.Goals as goal

pub returns : goal.returns
returns c = proof.relaxed_exists c.placement_exists.ensures
