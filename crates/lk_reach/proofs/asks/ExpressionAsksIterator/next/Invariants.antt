use Rattle.std.proofs.Common.{◌≡◌, None, length}
use Rattle.lk_reach.specs.Units.{token_asks}
use Rattle.lk_reach.proofs.asks.ExpressionAsksIterator.next.Given as goal

-- only pieces that refer to nothing were passed over
abbrev pub invariant-loop-token : goal.invariant-loop-token
invariant-loop-token l = (l.self-inside.first ≡ None) × (token_asks l.self-inside.groups.now l.self-inside.tokens.now ≡ l.fn.self)

abbrev pub decreases-loop-token : goal.decreases-loop-token
decreases-loop-token l = length l.self-inside.tokens.now
