use Rattle.std.proofs.Common.{◌≡◌, ◌++◌, drop, map}
use Rattle.lk_live.specs.PrimaryMarks.{is_primary_symbol}
use Rattle.lk_live.proofs.primary.push_primary.Given as goal

-- the marks so far, followed by those of the symbols that are left, are all
abbrev pub invariant-loop-symbol : goal.invariant-loop-symbol
invariant-loop-symbol l =
    l.primary.items ++ map (is_primary_symbol l.link l.file) (drop l.symbol-index l.symbols) ≡ l.initial.primary.items ++ map (is_primary_symbol l.link l.file) l.symbols
