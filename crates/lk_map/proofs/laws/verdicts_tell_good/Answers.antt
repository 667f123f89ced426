use Rattle.lk_map.proofs.Verdicts.{verdicts_tell_good}
use Rattle.lk_map.proofs.laws.verdicts_tell_good.Goals as goal

pub returns : goal.returns
returns c = verdicts_tell_good
