use Rattle.lk_map.proofs.Verdicts.{verdicts_agree}
use Rattle.lk_map.proofs.laws.verdicts_agree.Goals as goal

pub returns : goal.returns
returns c = verdicts_agree
