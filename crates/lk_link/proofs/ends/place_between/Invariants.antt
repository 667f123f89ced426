use Rattle.std.proofs.Common.{◌-◌}
use Rattle.lk_link.specs.Ends.{IsBetween}
use Rattle.lk_link.proofs.ends.place_between.Given as goal

-- what is left has the item's list
abbrev pub invariant-loop-low : goal.invariant-loop-low
invariant-loop-low l = IsBetween l.ends l.low l.high l.item

abbrev pub decreases-loop-low : goal.decreases-loop-low
decreases-loop-low l = l.high - l.low
