use Rattle.std.proofs.Common.{◌≡◌, ◌++◌, drop, map}
use Rattle.lk_reach.specs.Marks.{flags_handed_in}
use Rattle.lk_reach.proofs.walk.push_flags.Given as goal

-- the flags so far, followed by those of the symbols that are left, are all
abbrev pub invariant-loop-symbol : goal.invariant-loop-symbol
invariant-loop-symbol l = l.words.items ++ map flags_handed_in (drop l.symbol-index l.symbols) ≡ l.initial.words.items ++ map flags_handed_in l.symbols
