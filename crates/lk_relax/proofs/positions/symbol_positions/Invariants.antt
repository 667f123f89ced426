use Rattle.std.proofs.Common.{◌≡◌, map}
use Rattle.std.specs.List.{flat_map}
use Rattle.lk_link.specs.Walks.{file_of}
use Rattle.lk_relax.specs.Positions.{file_positions}
use Rattle.lk_relax.proofs.positions.symbol_positions.Given as goal

-- the positions of the symbols of the files so far
abbrev pub invariant-loop-file : goal.invariant-loop-file
invariant-loop-file l = l.positions.items ≡ flat_map (file_positions l.link.groups l.deltas l.sections) (map file_of l.yielded)
