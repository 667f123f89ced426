use Rattle.std.proofs.Common.{◌≡◌, [], take}
use Rattle.std.specs.List.{enumerate_from, flat_map}
use Rattle.lk_link.specs.Walks.{file_of}
use Rattle.lk_resolutions.specs.Outside.{relocation_outside}
use Rattle.lk_resolutions.proofs.outside.check_section.Given as goal

-- none of the relocations so far refers outside
abbrev pub invariant-loop-number : goal.invariant-loop-number
invariant-loop-number l = flat_map (relocation_outside l.at.link.now (file_of l.at.file) l.index) (take l.number (enumerate_from 0 l.section.relocs)) ≡ []
