use Rattle.std.proofs.Common.{[]}
use Rattle.lk_relax.specs.Relaxed.{own_filling}
use Rattle.lk_placement_tests.proofs.relaxed.add_sized.Goals as goal

pub place_first-requires-clause-filled : goal.place_first-requires-clause-filled
place_first-requires-clause-filled g c = (own_filling c.args.link.now (g.P.Platform.table_sizes c.args.platform.now) c.args.live.now [] [], c.requires.filled)

pub add_first-requires-clause-filled : goal.add_first-requires-clause-filled
add_first-requires-clause-filled g c = (g.P.Platform.table_sizes c.args.platform.now, c.requires.filled)

pub add_passes-requires-clause-first : goal.add_passes-requires-clause-first
add_passes-requires-clause-first g c = c.in-Ok.ensures (own_filling c.args.link.now (g.P.Platform.table_sizes c.args.platform.now) c.args.live.now [] []) c.requires.filled
