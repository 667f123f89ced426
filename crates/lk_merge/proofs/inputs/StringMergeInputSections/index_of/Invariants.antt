use Rattle.std.proofs.Common.{◌-◌}
use Rattle.lk_merge.proofs.Numbers.{IsHalved}
use Rattle.lk_merge.proofs.inputs.StringMergeInputSections.index_of.Given as goal

abbrev pub invariant-loop-low : goal.invariant-loop-low
invariant-loop-low l = IsHalved l.sections l.number l.low l.high

abbrev pub decreases-loop-low : goal.decreases-loop-low
decreases-loop-low l = l.high - l.low
