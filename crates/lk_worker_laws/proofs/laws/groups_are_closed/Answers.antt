use Rattle.lk_worker_laws.proofs.ClosedGroups.{groups_are_closed}
use Rattle.lk_worker_laws.proofs.laws.groups_are_closed.Goals as goal

pub returns : goal.returns
returns c = groups_are_closed
