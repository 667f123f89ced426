use Rattle.lk_relax.proofs.ReadBack as proof
use Rattle.lk_relax.proofs.laws.deletions_are_read.Goals as goal

pub returns : goal.returns
returns c = proof.deletions_are_read
