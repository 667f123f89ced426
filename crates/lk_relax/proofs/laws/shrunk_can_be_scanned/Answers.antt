use Rattle.lk_relax.proofs.PastSites as proof
use Rattle.lk_relax.proofs.laws.shrunk_can_be_scanned.Goals as goal

pub returns : goal.returns
returns c = proof.shrunk_can_be_scanned
