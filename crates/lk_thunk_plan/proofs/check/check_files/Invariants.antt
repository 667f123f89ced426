use Rattle.std.proofs.Common.{◌≡◌, [], length, map}
use Rattle.std.specs.List.{flat_map}
use Rattle.lk_link.specs.Walks.{file_of}
use Rattle.lk_thunk_plan.specs.Branches.{file_unreached}
use Rattle.lk_thunk_plan.specs.BranchWords.{IsNextUser, branching_of}
use Rattle.lk_thunk_plan.proofs.check.check_files.Given as goal

-- all branches of the files so far reach, and the next object is the first that isn't before the next file
abbrev pub invariant-loop-file : goal.invariant-loop-file
invariant-loop-file l = record {
  none : flat_map (file_unreached (branching_of l.by) l.config) (map file_of l.yielded) ≡ [];
  next : IsNextUser l.by.link.now l.by.plan.now.users (length l.yielded) l.next;
}
