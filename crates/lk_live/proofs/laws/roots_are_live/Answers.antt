use Rattle.lk_live.proofs.Living.{roots_are_live}
use Rattle.lk_live.proofs.laws.roots_are_live.Goals as goal

pub returns : goal.returns
returns c = roots_are_live
