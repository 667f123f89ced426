use Rattle.lk_reach.proofs.ReachLemmas.{reach_is_closed}
use Rattle.lk_reach.proofs.laws.reach_is_closed.Goals as goal

pub returns : goal.returns
returns c = reach_is_closed
