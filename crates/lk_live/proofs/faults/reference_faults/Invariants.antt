use Rattle.std.proofs.Common.{◌≡◌, map}
use Rattle.std.specs.List.{flat_map}
use Rattle.lk_link.specs.Walks.{file_of}
use Rattle.lk_live.specs.Faults.{file_faults}
use Rattle.lk_live.proofs.faults.reference_faults.Given as goal

-- the faults of the files so far
abbrev pub invariant-loop-file : goal.invariant-loop-file
invariant-loop-file l = l.faults.items ≡ flat_map (file_faults l.link l.marks) (map file_of l.yielded)
