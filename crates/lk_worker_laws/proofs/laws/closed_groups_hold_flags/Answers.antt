use Rattle.lk_worker_laws.proofs.ClosedGroups.{closed_groups_hold_flags}
use Rattle.lk_worker_laws.proofs.laws.closed_groups_hold_flags.Goals as goal

pub returns : goal.returns
returns c = closed_groups_hold_flags
