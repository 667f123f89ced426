use Rattle.std.proofs.Common.{sym, arith, rules}
use Rattle.serde_json.specs.View.{view}
use Rattle.lk_link.specs.Expressions.{Leaf, Node}
use Rattle.lk_input.proofs.Expressions.{depth-falls, expression_of-operand, expression_of-operation, behind}
use Rattle.lk_input.proofs.read.expression.+tokens.Goals as goal

pub read_tokens_at-read_tokens-read-requires : goal.read_tokens_at-read_tokens-read-requires
read_tokens_at-read_tokens-read-requires t c =
    let less = depth-falls (view c.args.value.now) c.args.index (view c.in-Some.item.now) (sym c.in-Some.ensures) in
    (omega arith, tt)

pub read_tokens-returns-in_ok-push-in-Operand : goal.read_tokens-returns-in_ok-push-in-Operand
read_tokens-returns-in_ok-push-in-Operand t c =
    let operand = c.in_ok-operand-in-Operand.operand in (
      Leaf operand,
      expression_of-operand _ c.in-Operand.form operand (search rules) (search rules) (search rules),
      search rules,
    )

pub read_tokens-returns-in_ok-push-in-Operator : goal.read_tokens-returns-in_ok-push-in-Operator
read_tokens-returns-in_ok-push-in-Operator t c =
    let left = c.in_ok-read_tokens_at-in-Operator.ensures in
    let right = c.in_ok-read_tokens_at-in-Operator-2.ensures in
    let o = c.in-Operator.operator in (
      Node o left.0 right.0,
      expression_of-operation _ o left.0 right.0 (search rules) (search rules) left.1 right.1 (search rules),
      behind _ left.0 right.0 _ _ _ o left.2 right.2 (search rules),
    )
