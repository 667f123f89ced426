use Rattle.lk_relax.proofs.PastSites as proof
use Rattle.lk_relax.proofs.laws.nothing_is_past.Goals as goal

pub returns : goal.returns
returns c = proof.nothing_is_past
