use Rattle.std.proofs.Common.{take}
use Rattle.lk_ranks.specs.Ranks.{StandByKeys}
use Rattle.lk_ranks.proofs.ranks.in_order.Given as goal

-- those of the keys so far
abbrev pub invariant-loop-key : goal.invariant-loop-key
invariant-loop-key g l = StandByKeys l.told (take l.key-index l.keys) l.all.items
