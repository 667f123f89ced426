use Rattle.lk_relax.proofs.StillParts as proof
use Rattle.lk_relax.proofs.laws.relaxed_stands.Goals as goal

pub returns : goal.returns
returns c = proof.relaxed_stands
