use Rattle.std.proofs.Common.{refl}
use Rattle.lk_workers.proofs.Asked.{symbol_meant}
use Rattle.lk_workers.proofs.state.GroupState.refer.Goals as goal

pub set-found-requires-clause-there : goal.set-found-requires-clause-there
set-found-requires-clause-there g c = c.requires.met.inside.symbol (c.args.symbol, c.args.flags.0) refl

pub set-found-requires-clause-bounded : goal.set-found-requires-clause-bounded
set-found-requires-clause-bounded g c = c.requires.met.flags (c.args.symbol, c.args.flags.0) refl

pub pass_on-requires : goal.pass_on-requires
pass_on-requires g c = record { meant = symbol_meant g.J.Reach.lists c.args.symbol c.args.flags c.requires.met }
