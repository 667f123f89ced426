use Rattle.std.proofs.Common.{◌≡◌, drop, length}
use Rattle.lk_expressions.specs.Evaluation.{HaveRoom, run}
use Rattle.lk_expressions.specs.Expressions.{expression_value}
use Rattle.lk_expressions.proofs.evaluation.evaluate_tokens.Given as goal

-- what is left finds room, and gives the value of the whole
abbrev pub invariant-loop-token : goal.invariant-loop-token
invariant-loop-token g l =
    HaveRoom (drop l.token-index l.tokens) (length l.stack)
    × (run (g.S.Surroundings.worth l.surroundings) (drop l.token-index l.tokens) l.stack
    ≡ expression_value (g.S.Surroundings.worth l.surroundings) l.expression)
