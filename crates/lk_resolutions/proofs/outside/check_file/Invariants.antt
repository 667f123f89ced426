use Rattle.std.proofs.Common.{◌≡◌, [], take}
use Rattle.std.specs.List.{enumerate_from, flat_map}
use Rattle.lk_link.specs.Walks.{file_of}
use Rattle.lk_resolutions.specs.Outside.{section_outside}
use Rattle.lk_resolutions.proofs.outside.check_file.Given as goal

-- none of the sections so far has a relocation that refers outside
abbrev pub invariant-loop-index : goal.invariant-loop-index
invariant-loop-index l = flat_map (section_outside l.link l.live (file_of l.file)) (take l.index (enumerate_from 0 l.file.file.now.sections)) ≡ []
