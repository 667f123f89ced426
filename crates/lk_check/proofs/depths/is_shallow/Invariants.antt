use Rattle.std.proofs.Common.{◌≡◌, ◌-◌, length, take, reverse, nat_le}
use Rattle.lk_link.specs.declared.limits.TheConstants.{MOST_DEPTH}
use Rattle.lk_link.specs.ExpressionRules.{depth}
use Rattle.lk_check.specs.DepthWalk.{are_shallow, Rise}
use Rattle.lk_check.proofs.depths.is_shallow.Given as goal

-- the tokens that are left tell of the whole
abbrev pub invariant-loop-done : goal.invariant-loop-done
invariant-loop-done l = record {
  rise : Rise l.depths;
  left : are_shallow (reverse (take (length l.tokens - l.done) l.tokens)) l.depths ≡ nat_le (depth l.expression) MOST_DEPTH;
}
