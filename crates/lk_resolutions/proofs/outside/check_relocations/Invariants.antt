use Rattle.std.proofs.Common.{◌≡◌, [], map}
use Rattle.std.specs.List.{flat_map}
use Rattle.lk_link.specs.Walks.{file_of}
use Rattle.lk_resolutions.specs.Outside.{relocations_outside}
use Rattle.lk_resolutions.proofs.outside.check_relocations.Given as goal

-- none of the files so far has a relocation that refers outside
abbrev pub invariant-loop-file : goal.invariant-loop-file
invariant-loop-file l = flat_map (relocations_outside l.link l.live) (map file_of l.yielded) ≡ []
