use Rattle.std.proofs.Common.{◌≡◌, [], take}
use Rattle.std.specs.List.{enumerate_from, flat_map}
use Rattle.lk_link.specs.Walks.{file_of}
use Rattle.lk_thunk_plan.specs.Branches.{section_unreached}
use Rattle.lk_thunk_plan.specs.BranchWords.{branching_of}
use Rattle.lk_thunk_plan.proofs.check.check_file.Given as goal

-- all branches of the sections so far reach
abbrev pub invariant-loop-index : goal.invariant-loop-index
invariant-loop-index l = flat_map (section_unreached (branching_of l.by) l.config (file_of l.file)) (take l.index (enumerate_from 0 l.file.file.now.sections)) ≡ []
