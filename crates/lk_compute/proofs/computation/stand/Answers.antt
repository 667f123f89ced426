use Rattle.lk_layout.specs.Stages.{IsSpannedLink}
use Rattle.lk_layout.proofs.Answering.{reached_on}
use Rattle.lk_compute.proofs.computation.stand.Goals as goal

pub returns-in_err-placed : goal.returns-in_err-placed
returns-in_err-placed g c =
    reached_on (g.J.Finds.machine c.args.job.now) (g.J.Finds.link c.args.job.now) (IsSpannedLink (g.J.Finds.machine c.args.job.now) (g.J.Finds.link c.args.job.now)) c.in_err-placed.field-0.0 c.from_residual.result c.from_residual.ensures.1 c.in_err-placed.ensures
