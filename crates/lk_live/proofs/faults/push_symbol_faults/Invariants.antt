use Rattle.std.proofs.Common.{◌≡◌, ◌++◌, take}
use Rattle.std.specs.List.{enumerate_from, filter_map}
use Rattle.lk_link.specs.Walks.{file_of}
use Rattle.lk_live.specs.Faults.{dynamic_fault}
use Rattle.lk_live.proofs.faults.push_symbol_faults.Given as goal

-- the faults of the symbols so far are added
abbrev pub invariant-loop-number : goal.invariant-loop-number
invariant-loop-number l =
    l.faults.items ≡ l.initial.faults.items ++ filter_map (dynamic_fault l.undefined l.first (file_of l.file)) (enumerate_from 0 (take l.number l.symbols))
