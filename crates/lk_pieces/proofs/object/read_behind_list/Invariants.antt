use Rattle.std.proofs.Common.{length}
use Rattle.lk_pieces.proofs.Members.{BehindSoFar}
use Rattle.lk_pieces.proofs.object.read_behind_list.Given as goal

abbrev pub invariant-members : goal.invariant-members
invariant-members g l = BehindSoFar l.key 126 (g.M.Others.members l.initial.others) l.initial.reader (g.M.Others.members l.others) l.reader

abbrev pub decreases-members : goal.decreases-members
decreases-members g l = length l.reader
