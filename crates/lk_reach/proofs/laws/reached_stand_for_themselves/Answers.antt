use Rattle.lk_reach.proofs.SelfStanding.{reached_stand_for_themselves}
use Rattle.lk_reach.proofs.laws.reached_stand_for_themselves.Goals as goal

pub returns : goal.returns
returns c = reached_stand_for_themselves
