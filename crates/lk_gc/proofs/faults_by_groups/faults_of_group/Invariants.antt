use Rattle.std.proofs.Common.{◌≡◌, ◌≤◌, length, take}
use Rattle.std.specs.List.{flat_map}
use Rattle.lk_link.specs.Inputs.{group_files}
use Rattle.lk_live.specs.Faults.{file_faults}
use Rattle.lk_gc.proofs.faults_by_groups.faults_of_group.Given as goal

-- the faults of the files so far
abbrev pub invariant-loop-index : goal.invariant-loop-index
invariant-loop-index l = record {
  made : l.faults.items ≡ flat_map (file_faults l.link l.marks) (group_files l.group 0 (take l.index l.files));
  within : l.index ≤ length l.files;
}
