use Rattle.lk_expressions.proofs.ConstantLaws.{constants_go_by_those_before}
use Rattle.lk_expressions.proofs.laws.constants_go_by_those_before.Goals as goal

pub returns : goal.returns
returns c = constants_go_by_those_before
