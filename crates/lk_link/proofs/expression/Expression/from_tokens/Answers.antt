use Rattle.lk_link.proofs.ExpressionLemmas.{are_postfix, read_back}
use Rattle.lk_link.proofs.expression.Expression.from_tokens.Goals as goal

pub invariant_of-result : goal.invariant_of-result
invariant_of-result c = are_postfix c.args.tokens c.requires.0 c.requires.1

pub returns : goal.returns
returns c = λ t h. read_back c.args.tokens t h
