use Rattle.std.proofs.Common.{◌+◌, length}
use Rattle.lk_reach.specs.Walking.{AreAsked, AreTaken, IsWalking, unmarked}
use Rattle.lk_reach.proofs.walk.Walk.take_stack.Given as goal

abbrev pub invariant-loop-number : goal.invariant-loop-number
invariant-loop-number l = IsWalking l.link l.self × AreTaken l.link l.taken.items l.self.marks.items × AreAsked l.link l.edges.taken.items l.self

-- units that aren't marked can still come onto the stack, once each
abbrev pub decreases-loop-number : goal.decreases-loop-number
decreases-loop-number l = unmarked l.self.marks.items + length l.self.stack.items
