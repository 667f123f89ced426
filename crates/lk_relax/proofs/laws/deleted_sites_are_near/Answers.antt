use Rattle.lk_relax.proofs.PastSites as proof
use Rattle.lk_relax.proofs.laws.deleted_sites_are_near.Goals as goal

pub returns : goal.returns
returns c = proof.deleted_sites_are_near
