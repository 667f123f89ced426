use Rattle.lk_explain.specs.Sharing.{NoneTaken}
use Rattle.lk_explain.proofs.shared.lead_symbols.Given as goal

-- no symbol has the mark, if none had it
abbrev pub invariant-loop-symbol : goal.invariant-loop-symbol
invariant-loop-symbol l = NoneTaken l.initial.leaders.items → NoneTaken l.leaders.items
