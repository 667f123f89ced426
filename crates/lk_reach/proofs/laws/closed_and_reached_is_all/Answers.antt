use Rattle.lk_reach.proofs.WholeLemmas.{closed_and_reached_is_all}
use Rattle.lk_reach.proofs.laws.closed_and_reached_is_all.Goals as goal

pub returns : goal.returns
returns c = closed_and_reached_is_all
