use Rattle.std.proofs.Common.{◌-◌}
use Rattle.lk_link.proofs.OutputSections.{IsHalved}
use Rattle.lk_link.proofs.part_sections.section_of_part.Given as goal

abbrev pub invariant-loop-high : goal.invariant-loop-high
invariant-loop-high l = IsHalved l.sections l.part l.low l.high

abbrev pub decreases-loop-high : goal.decreases-loop-high
decreases-loop-high l = l.high - l.low
