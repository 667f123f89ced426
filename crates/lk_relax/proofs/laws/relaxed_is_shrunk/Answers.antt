use Rattle.lk_relax.proofs.Keeping as proof
use Rattle.lk_relax.proofs.laws.relaxed_is_shrunk.Goals as goal

pub returns : goal.returns
returns c = proof.relaxed_is_shrunk
