use Rattle.lk_relax.proofs.StillParts as proof
use Rattle.lk_relax.proofs.laws.first_stands.Goals as goal

pub returns : goal.returns
returns c = proof.first_stands
