use Rattle.lk_thunk_plan.proofs.Reaching.{branches_reach}
use Rattle.lk_thunk_plan.proofs.laws.branches_reach.Goals as goal

pub returns : goal.returns
returns c = branches_reach
