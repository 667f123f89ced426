use Rattle.lk_reach.proofs.UnitLemmas.{asks_are_inside}
use Rattle.lk_reach.proofs.laws.asks_are_inside.Goals as goal

pub returns : goal.returns
returns c = asks_are_inside
