use Rattle.lk_link.proofs.GoodInputs.{lists_of}
use Rattle.lk_link.proofs.laws.input_lists_are_few.Goals as goal

pub returns : goal.returns
returns c = lists_of
