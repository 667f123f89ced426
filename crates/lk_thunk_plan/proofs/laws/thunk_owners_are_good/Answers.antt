use Rattle.lk_thunk_plan.proofs.PlanLemmas.{owners_are_good}
use Rattle.lk_thunk_plan.proofs.laws.thunk_owners_are_good.Goals as goal

pub returns : goal.returns
returns c = owners_are_good
