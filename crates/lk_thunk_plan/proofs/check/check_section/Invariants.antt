use Rattle.std.proofs.Common.{◌≡◌, [], take}
use Rattle.std.specs.List.{enumerate_from, flat_map}
use Rattle.lk_link.specs.Walks.{file_of}
use Rattle.lk_thunk_plan.specs.Branches.{relocation_unreached, standing_of}
use Rattle.lk_thunk_plan.specs.BranchWords.{branching_of}
use Rattle.lk_thunk_plan.proofs.check.check_section.Given as goal

-- all relocations so far reach
abbrev pub invariant-loop-place : goal.invariant-loop-place
invariant-loop-place l =
    flat_map (relocation_unreached (branching_of l.by) l.at.config.now (file_of l.at.file) l.index (standing_of (branching_of l.by) l.at.file.id (l.index, l.section)))
    (take l.place (enumerate_from 0 l.section.relocs)) ≡ []
