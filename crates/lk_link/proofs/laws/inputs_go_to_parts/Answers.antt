use Rattle.lk_link.proofs.GoodInputs.{inputs_go_to_parts}
use Rattle.lk_link.proofs.laws.inputs_go_to_parts.Goals as goal

pub returns : goal.returns
returns c = inputs_go_to_parts
