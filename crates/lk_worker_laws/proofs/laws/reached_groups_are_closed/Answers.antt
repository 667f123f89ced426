use Rattle.lk_worker_laws.proofs.ClosedGroups.{reached_groups_are_closed}
use Rattle.lk_worker_laws.proofs.laws.reached_groups_are_closed.Goals as goal

pub returns : goal.returns
returns c = reached_groups_are_closed
