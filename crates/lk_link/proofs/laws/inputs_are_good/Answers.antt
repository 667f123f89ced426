use Rattle.lk_link.proofs.GoodInputs.{inputs_are_good}
use Rattle.lk_link.proofs.laws.inputs_are_good.Goals as goal

pub returns : goal.returns
returns c = inputs_are_good
