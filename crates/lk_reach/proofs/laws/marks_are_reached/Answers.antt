use Rattle.lk_reach.proofs.ReachLemmas.{marks_are_reached}
use Rattle.lk_reach.proofs.laws.marks_are_reached.Goals as goal

pub returns : goal.returns
returns c = marks_are_reached
