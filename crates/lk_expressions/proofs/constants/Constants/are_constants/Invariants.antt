use Rattle.std.proofs.Common.{◌≡◌, drop}
use Rattle.std.specs.Prelude.{is_some}
use Rattle.std.specs.List.{list_all}
use Rattle.lk_link.specs.ExpressionRules.{all_operands, operand_passes}
use Rattle.lk_expressions.specs.Constants.{constant_operand}
use Rattle.lk_expressions.specs.KnownThen.{before_of}
use Rattle.lk_expressions.proofs.constants.Constants.are_constants.Given as goal

-- what is left passes where all operands do
abbrev pub invariant-loop-token : goal.invariant-loop-token
invariant-loop-token l =
    list_all (operand_passes (λ o. is_some (constant_operand (before_of l.self.known.now) l.self.so_far.now o))) (drop l.token-index l.tokens)
    ≡ all_operands (λ o. is_some (constant_operand (before_of l.self.known.now) l.self.so_far.now o)) l.expression
