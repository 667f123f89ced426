use Rattle.std.proofs.Common.{◌≡◌, length}
use Rattle.lk_reach.proofs.edges.find_leaders.Given as goal

-- the table keeps its length
abbrev pub invariant-loop-file : goal.invariant-loop-file
invariant-loop-file l = length l.leaders.items ≡ l.count
