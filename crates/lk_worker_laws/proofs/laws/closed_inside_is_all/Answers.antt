use Rattle.lk_worker_laws.proofs.ClosedGroups.{closed_inside_is_all}
use Rattle.lk_worker_laws.proofs.laws.closed_inside_is_all.Goals as goal

pub returns : goal.returns
returns c = closed_inside_is_all
