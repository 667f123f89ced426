use Rattle.lk_relax.proofs.Emptied as proof
use Rattle.lk_relax.proofs.laws.nothing_deleted_leaves_all.Goals as goal

pub returns : goal.returns
returns c = proof.nothing_deleted_leaves_all
