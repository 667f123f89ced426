use Rattle.std.proofs.Common.{None, false, length}
use Rattle.lk_pieces.specs.Lists.{ReadsOn}
use Rattle.lk_pieces.proofs.lists.read_last_lists.Given as goal

abbrev pub invariant-lists : goal.invariant-lists
invariant-lists g l = ReadsOn g.T.Element.described l.depth false l.initial.reader l.initial.closed.items l.closed.items None l.reader

abbrev pub decreases-lists : goal.decreases-lists
decreases-lists g l = length l.reader
