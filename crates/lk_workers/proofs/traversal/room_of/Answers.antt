use Rattle.lk_workers.proofs.Making.{none_reached, none_of}
use Rattle.lk_workers.proofs.traversal.room_of.Goals as goal

pub returns-clause-reached : goal.returns-clause-reached
returns-clause-reached g c = none_reached g.J.Reach.lists c.args.link.now c.unit_count.result c.in_ok-room.room.items c.requires c.unit_count.ensures c.in_ok-room.ensures

pub returns-clause-none : goal.returns-clause-none
returns-clause-none g c = none_of c.unit_count.result c.in_ok-room.room.items c.in_ok-room.ensures
