use Rattle.std.proofs.Common.{◌≡◌, length}
use Rattle.lk_ranks.proofs.NameOrder.{AreTold}
use Rattle.lk_ranks.proofs.ranks.ranks_of.Given as goal

-- those of the names so far
abbrev pub invariant-loop-rank : goal.invariant-loop-rank
invariant-loop-rank l = record {
  count : length l.ranks.items ≡ length l.names;
  told : AreTold l.name-items l.ranks.items l.rank;
}
