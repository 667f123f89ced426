use Rattle.lk_thunks.proofs.UserLaws.{one_owner}
use Rattle.lk_thunks.proofs.laws.blocks_have_one_owner.Goals as goal

pub returns : goal.returns
returns c = one_owner
