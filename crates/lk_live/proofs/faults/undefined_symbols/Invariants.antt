use Rattle.std.proofs.Common.{◌≡◌, map}
use Rattle.std.specs.List.{flat_map}
use Rattle.lk_link.specs.Walks.{file_of}
use Rattle.lk_live.specs.Faults.{undefined_placements}
use Rattle.lk_live.proofs.faults.undefined_symbols.Given as goal

-- the symbols of the files so far
abbrev pub invariant-loop-file : goal.invariant-loop-file
invariant-loop-file l = l.undefined.items ≡ flat_map (λ f. undefined_placements f.file.symbols) (map file_of l.yielded)
