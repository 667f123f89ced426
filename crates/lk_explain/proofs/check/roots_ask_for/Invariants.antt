use Rattle.std.proofs.Common.{◌≡◌, length}
use Rattle.std.specs.List.{list_any}
use Rattle.lk_reach.specs.Units.{roots}
use Rattle.lk_explain.specs.Faults.{is_for}
use Rattle.lk_explain.proofs.check.roots_ask_for.Given as goal

-- asks that aren't for the unit were passed over
abbrev pub invariant-loop-ask : goal.invariant-loop-ask
invariant-loop-ask l = list_any (is_for l.unit) l.asks ≡ list_any (is_for l.unit) (roots l.link)

abbrev pub decreases-loop-ask : goal.decreases-loop-ask
decreases-loop-ask l = length l.asks
