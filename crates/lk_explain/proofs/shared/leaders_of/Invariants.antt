use Rattle.lk_explain.specs.Sharing.{NoneTaken}
use Rattle.lk_explain.proofs.shared.leaders_of.Given as goal

-- no symbol has the mark
abbrev pub invariant-loop-file : goal.invariant-loop-file
invariant-loop-file l = NoneTaken l.leaders.items
