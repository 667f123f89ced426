use Rattle.std.proofs.Common.{◌≡◌, ◌++◌, drop}
use Rattle.lk_live.specs.Faults.{undefined_placements}
use Rattle.lk_live.proofs.faults.push_undefined.Given as goal

-- the marks so far, followed by those of the symbols that are left, are all
abbrev pub invariant-loop-symbol : goal.invariant-loop-symbol
invariant-loop-symbol l = l.undefined.items ++ undefined_placements (drop l.symbol-index l.symbols) ≡ l.initial.undefined.items ++ undefined_placements l.symbols
