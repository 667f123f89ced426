use Rattle.std.proofs.Common.{sym, subst}
use Rattle.lk_workers.specs.Asked.{AreMet}
use Rattle.lk_workers.proofs.state.GroupState.do_unit.Goals as goal

pub do_asks-requires-clause-met : goal.do_asks-requires-clause-met
do_asks-requires-clause-met g c = subst (AreMet g.J.Reach.lists) (sym c.follows.ensures.asks) c.follows.ensures.met
