use Rattle.lk_map.proofs.Refused.{refuses_first_wrong}
use Rattle.lk_map.proofs.laws.refuses_first.Goals as goal

pub returns : goal.returns
returns c = refuses_first_wrong
