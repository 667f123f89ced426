use Rattle.std.proofs.Common.{◌≤◌, ◌-◌, ◌++◌, List}
use Rattle.lk_merge.specs.declared.groups.SectionGroup.{SectionGroup}
use Rattle.lk_merge.specs.Groups.{AreGroups}
use Rattle.lk_merge.proofs.groups.split_sections.Given as goal

-- the groups so far, followed by those of what is left, are all
abbrev pub invariant-loop-start : goal.invariant-loop-start
invariant-loop-start l = ((rest : List SectionGroup) → AreGroups l.sections l.size l.start rest → AreGroups l.sections l.size 0 (l.groups.items ++ rest)) × (l.start ≤ l.total)

abbrev pub decreases-loop-start : goal.decreases-loop-start
decreases-loop-start l = l.total - l.start
