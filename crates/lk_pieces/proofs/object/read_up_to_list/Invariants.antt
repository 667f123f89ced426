use Rattle.std.proofs.Common.{length}
use Rattle.lk_pieces.proofs.Members.{SoFar}
use Rattle.lk_pieces.proofs.object.read_up_to_list.Given as goal

abbrev pub invariant-members : goal.invariant-members
invariant-members g l = SoFar 126 (g.M.Others.members l.initial.others) l.initial.reader (g.M.Others.members l.others) l.reader

abbrev pub decreases-members : goal.decreases-members
decreases-members g l = length l.reader
