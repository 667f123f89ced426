use Rattle.lk_workers.proofs.Making.{handed_within, same_count}
use Rattle.lk_workers.proofs.traversal.flag_table.Goals as goal

pub new-requires-clause-count : goal.new-requires-clause-count
new-requires-clause-count g c = same_count g.J.Reach.lists c.args.link.now c.requires

pub new-requires-clause-bounded : goal.new-requires-clause-bounded
new-requires-clause-bounded g c = handed_within g.J.Reach.lists c.args.link.now c.requires
