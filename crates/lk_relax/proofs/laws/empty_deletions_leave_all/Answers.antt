use Rattle.lk_relax.proofs.Emptied as proof
use Rattle.lk_relax.proofs.laws.empty_deletions_leave_all.Goals as goal

pub returns : goal.returns
returns c = proof.empty_deletions_leave_all
