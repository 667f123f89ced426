use Rattle.std.proofs.Common.{◌∙◌, ap}
use Rattle.std.specs.List.{list_all}
use Rattle.lk_link.specs.ExpressionRules.{operand_passes}
use Rattle.lk_expressions.specs.Named.{is_no_symbol}
use Rattle.lk_expressions.proofs.OperandTests.{all_tokens}
use Rattle.lk_expressions.proofs.named.names_none.Goals as goal

pub returns : goal.returns
returns c = c.all_pass.ensures ∙ ap (list_all (operand_passes is_no_symbol)) c.tokens.ensures ∙ all_tokens is_no_symbol c.args.expression.now
