use Rattle.std.proofs.Common.{rules}
use Rattle.lk_workers.proofs.GoingOn.{stays}
use Rattle.lk_workers.proofs.workers.run_all.Goals as goal

pub loop-other-init : goal.loop-other-init
loop-other-init g c = (search rules, search rules, stays _ _ c.loop-index.invariant.4)
