use Rattle.std.proofs.Common.{◌≡◌, ◌++◌, drop, map}
use Rattle.lk_link.specs.Walks.{file_of}
use Rattle.lk_thunks.specs.Homes.{home_number}
use Rattle.lk_thunks.proofs.homes.push_homes.Given as goal

-- those so far, followed by those of the symbols that are left, are all
abbrev pub invariant-loop-symbol : goal.invariant-loop-symbol
invariant-loop-symbol l =
    l.homes.items ++ map (home_number l.link (file_of l.file)) (drop l.symbol-index l.symbols) ≡ l.initial.homes.items ++ map (home_number l.link (file_of l.file)) l.symbols
