use Rattle.lk_reach.proofs.ReachLemmas.{closed_marks_hold_reach}
use Rattle.lk_reach.proofs.laws.closed_marks_hold_reach.Goals as goal

pub returns : goal.returns
returns c = closed_marks_hold_reach
