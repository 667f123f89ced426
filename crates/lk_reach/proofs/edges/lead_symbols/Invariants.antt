use Rattle.std.proofs.Common.{◌≡◌, length}
use Rattle.lk_reach.proofs.edges.lead_symbols.Given as goal

-- the table keeps its length
abbrev pub invariant-loop-symbol : goal.invariant-loop-symbol
invariant-loop-symbol l = length l.leaders.items ≡ length l.initial.leaders.items
