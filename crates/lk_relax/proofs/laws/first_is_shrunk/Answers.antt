use Rattle.lk_relax.proofs.Keeping as proof
use Rattle.lk_relax.proofs.laws.first_is_shrunk.Goals as goal

pub returns : goal.returns
returns c = proof.first_is_shrunk
