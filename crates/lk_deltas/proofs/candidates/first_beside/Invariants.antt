use Rattle.std.proofs.Common.{drop}
use Rattle.lk_deltas.proofs.PastLimits.{Look}
use Rattle.lk_deltas.proofs.candidates.first_beside.Given as goal

-- none of the candidates so far is past its limit
abbrev pub invariant-loop-index : goal.invariant-loop-index
invariant-loop-index g l = Look (g.J.Judge.told l.judge) l.old l.candidates l.index l.passed (drop l.index l.candidates)
