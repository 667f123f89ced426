use Rattle.lk_merge.proofs.Outside.{outside_is_refused}
use Rattle.lk_merge.proofs.laws.outside_is_refused.Goals as goal

pub returns : goal.returns
returns c = outside_is_refused
