use Rattle.std.proofs.Common.{◌≡◌, ◌++◌, take}
use Rattle.lk_resolution_list.proofs.symbol_resolutions.SymbolResolutions.append.Given as goal

-- those of the symbols so far are added
abbrev pub invariant-loop-number : goal.invariant-loop-number
invariant-loop-number l = l.self ≡ l.initial.self ++ take l.number l.others
