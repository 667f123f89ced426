use Rattle.lk_thunk_plan.proofs.PlanLemmas.{in_order}
use Rattle.lk_thunk_plan.proofs.laws.plans_are_in_order.Goals as goal

pub returns : goal.returns
returns c = in_order
