use Rattle.lk_relax.proofs.FirstScan as proof
use Rattle.lk_relax.proofs.laws.first_can_be_scanned.Goals as goal

pub returns : goal.returns
returns c = proof.first_can_be_scanned c.nothing_is_of.ensures
