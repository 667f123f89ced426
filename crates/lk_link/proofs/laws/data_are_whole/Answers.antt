use Rattle.lk_link.proofs.GoodFiles.{given_whole}
use Rattle.lk_link.proofs.laws.data_are_whole.Goals as goal

pub returns : goal.returns
returns c = given_whole
