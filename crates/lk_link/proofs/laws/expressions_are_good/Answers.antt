use Rattle.lk_link.proofs.GoodExpressions.{good_expressions}
use Rattle.lk_link.proofs.laws.expressions_are_good.Goals as goal

pub returns : goal.returns
returns c = good_expressions
