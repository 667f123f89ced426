use Rattle.std.proofs.Common.{◌≤◌, length}
use Rattle.lk_merge.specs.GroupStarts.{HasEntries}
use Rattle.lk_merge.specs.Inputs.{located}
use Rattle.lk_merge.specs.MatrixWork.{front_located}
use Rattle.lk_merge.proofs.group_starts.entries_of.Given as goal

-- the entries of the groups so far have been added
abbrev pub invariant-loop-starts : goal.invariant-loop-starts
invariant-loop-starts g l = (l.group ≤ length g.J.Brings.work.groups) × HasEntries (located g.J.Brings.work.inputs) (front_located g.J.Brings.work l.group) l.entries
