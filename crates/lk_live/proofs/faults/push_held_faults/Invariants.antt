use Rattle.std.proofs.Common.{◌≡◌, ◌++◌, take}
use Rattle.std.specs.List.{enumerate_from, flat_map}
use Rattle.lk_link.specs.Walks.{file_of}
use Rattle.lk_live.specs.Faults.{marked_faults}
use Rattle.lk_live.proofs.faults.push_held_faults.Given as goal

-- the faults of the sections so far are added
abbrev pub invariant-loop-index : goal.invariant-loop-index
invariant-loop-index l =
    l.faults.items ≡ l.initial.faults.items ++ flat_map (marked_faults l.link l.marks (file_of l.file)) (enumerate_from 0 (take l.index l.sections))
