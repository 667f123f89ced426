use Rattle.lk_reach.specs.Walking.{Adds}
use Rattle.lk_reach.proofs.walk.Walk.take_all.Given as goal

-- the asks so far were taken
abbrev pub invariant-loop-ask : goal.invariant-loop-ask
invariant-loop-ask l = Adds l.link l.yielded l.fn.self l.self
