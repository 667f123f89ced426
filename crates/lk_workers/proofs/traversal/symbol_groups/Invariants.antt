use Rattle.std.proofs.Common.{◌≡◌, map}
use Rattle.std.specs.List.{flat_map}
use Rattle.lk_link.specs.NumberedSymbols.{symbols_of}
use Rattle.lk_link.specs.Walks.{file_of}
use Rattle.lk_workers.proofs.traversal.symbol_groups.Given as goal

-- the groups of the symbols of the files so far
abbrev pub invariant-loop-file : goal.invariant-loop-file
invariant-loop-file l = l.groups.items ≡ flat_map (λ f. map (λ q. q.0.id.group) (symbols_of f)) (map file_of l.yielded)
