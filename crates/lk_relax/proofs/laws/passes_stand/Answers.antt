use Rattle.lk_relax.proofs.StillParts as proof
use Rattle.lk_relax.proofs.laws.passes_stand.Goals as goal

pub returns : goal.returns
returns c = proof.passes_stand
