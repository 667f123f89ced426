use Rattle.std.proofs.Common.{◌-◌}
use Rattle.lk_merge.proofs.Grouping.{IsHalved}
use Rattle.lk_merge.proofs.groups.input_at.Given as goal

abbrev pub invariant-loop-high : goal.invariant-loop-high
invariant-loop-high l = IsHalved l.inputs l.at l.low l.high

abbrev pub decreases-loop-high : goal.decreases-loop-high
decreases-loop-high l = l.high - l.low
