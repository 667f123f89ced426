use Rattle.std.proofs.Common.{take}
use Rattle.lk_sizes.specs.Tables.{AreAdded}
use Rattle.lk_sizes.proofs.owners.add_commons.Given as goal

-- the totals are with the commons so far
abbrev pub invariant-loop-common : goal.invariant-loop-common
invariant-loop-common l = AreAdded l.link (take l.common-index l.commons) l.initial.totals l.totals
