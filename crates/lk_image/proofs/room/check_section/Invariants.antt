use Rattle.std.proofs.Common.{◌≡◌, [], take}
use Rattle.std.specs.List.{enumerate_from, flat_map}
use Rattle.lk_link.specs.Walks.{input_of}
use Rattle.lk_image.specs.Refusals.{relocation_refusals}
use Rattle.lk_image.proofs.room.check_section.Given as goal

-- none of the relocations so far lacks room
abbrev pub invariant-loop-index : goal.invariant-loop-index
invariant-loop-index l = flat_map (relocation_refusals (input_of l.input)) (take l.index (enumerate_from 0 l.input.section.now.relocs)) ≡ []
