use Rattle.lk_layout.proofs.Answering.{handed_on}
use Rattle.lk_compute.proofs.computation.finish.Goals as goal

pub returns-in_err-reaching : goal.returns-in_err-reaching
returns-in_err-reaching g c =
    handed_on (g.J.Finds.machine c.args.job.now) (g.J.Finds.link c.args.job.now) c.in_err-reaching.field-0.0 c.from_residual.result c.from_residual.ensures.1 c.in_err-reaching.ensures

pub returns-in_err-told : goal.returns-in_err-told
returns-in_err-told g c =
    handed_on (g.J.Finds.machine c.args.job.now) (g.J.Finds.link c.args.job.now) c.in_err-told.field-0.0 c.from_residual-in_err-told.result c.from_residual-in_err-told.ensures.1 c.in_err-told.ensures
