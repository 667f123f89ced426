use Rattle.std.proofs.Common.{◌∙◌, ap, sym}
use Rattle.lk_expressions.specs.Evaluation.{alone}
use Rattle.lk_expressions.proofs.Evaluations.{operand_alone}
use Rattle.lk_expressions.proofs.evaluation.evaluate.Goals as goal

pub returns-in-Some : goal.returns-in-Some
returns-in-Some g c =
    c.value.ensures
    ∙ operand_alone (g.S.Surroundings.worth c.args.surroundings.now) c.args.expression.now c.in-Some.operand (sym (ap alone c.tokens.ensures) ∙ sym c.alone.ensures ∙ c.in-Some.is)
