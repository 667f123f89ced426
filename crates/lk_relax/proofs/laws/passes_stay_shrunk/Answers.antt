use Rattle.lk_relax.proofs.Keeping as proof
use Rattle.lk_relax.proofs.laws.passes_stay_shrunk.Goals as goal

pub returns : goal.returns
returns c = proof.passes_stay_shrunk
