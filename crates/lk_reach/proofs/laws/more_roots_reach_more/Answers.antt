use Rattle.lk_reach.proofs.ReachLemmas.{more_roots_reach_more}
use Rattle.lk_reach.proofs.laws.more_roots_reach_more.Goals as goal

pub returns : goal.returns
returns c = more_roots_reach_more
