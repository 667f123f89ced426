use Rattle.std.proofs.Common.{◌≡◌, Some, map, take}
use Rattle.lk_reach.specs.Marks.{unit_at}
use Rattle.lk_explain.proofs.shown.units_of.Given as goal

-- the units with the numbers so far
abbrev pub invariant-loop-number : goal.invariant-loop-number
invariant-loop-number l = map Some l.units.items ≡ map (unit_at l.link.groups) (take l.number-index l.numbers)
