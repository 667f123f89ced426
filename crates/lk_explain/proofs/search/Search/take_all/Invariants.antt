use Rattle.lk_reach.specs.Marks.{asking}
use Rattle.lk_explain.specs.Searching.{Takes, with_asker}
use Rattle.lk_explain.proofs.search.Search.take_all.Given as goal

-- the asks so far were taken
abbrev pub invariant-loop-ask : goal.invariant-loop-ask
invariant-loop-ask l = Takes (asking l.asker.link.now) l.asker.distance (with_asker l.asker.number l.yielded) l.fn.self l.self
