use Rattle.lk_thunk_plan.specs.BranchWords.{branching_of}
use Rattle.lk_thunk_plan.proofs.Spots.{told_rise}
use Rattle.lk_thunk_plan.proofs.check.spot_of.Goals as goal

pub returns-clause-rising : goal.returns-clause-rising
returns-clause-rising c = told_rise (λ q. (q.0, q.1.now.symbols)) (branching_of c.args.by.now) _ c.thunks_of.result c.requires.sets c.thunks_of.ensures
