use Rattle.std.proofs.Common.{◌≡◌, map}
use Rattle.std.specs.List.{flat_map}
use Rattle.lk_link.specs.Walks.{file_of}
use Rattle.lk_thunks.specs.Homes.{home_number}
use Rattle.lk_thunks.proofs.homes.home_numbers.Given as goal

-- those of the symbols of the files so far
abbrev pub invariant-loop-file : goal.invariant-loop-file
invariant-loop-file l = l.homes.items ≡ flat_map (λ f. map (home_number l.link f) f.file.symbols) (map file_of l.yielded)
