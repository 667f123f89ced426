use Rattle.lk_reach.specs.Marks.{asking}
use Rattle.lk_explain.specs.Searching.{Takes, with_asker}
use Rattle.lk_explain.proofs.search.Search.take_wanted.Given as goal

-- the asks so far were taken
abbrev pub invariant-loop-ask : goal.invariant-loop-ask
invariant-loop-ask l = Takes (asking l.link) 1 (with_asker 0 l.yielded) l.fn.self l.self
