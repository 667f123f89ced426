use Rattle.lk_layout.proofs.Answering.{handed_on}
use Rattle.lk_compute.proofs.computation.lay_out.Goals as goal

pub returns-in_err-sized : goal.returns-in_err-sized
returns-in_err-sized g c =
    handed_on (g.J.Finds.machine c.args.job.now) (g.J.Finds.link c.args.job.now) c.in_err-sized.field-0.0 c.from_residual.result c.from_residual.ensures.1 c.in_err-sized.ensures

pub returns-in_err-spanned : goal.returns-in_err-spanned
returns-in_err-spanned g c =
    handed_on (g.J.Finds.machine c.args.job.now) (g.J.Finds.link c.args.job.now) c.in_err-spanned.field-0.0 c.from_residual-in_err-spanned.result c.from_residual-in_err-spanned.ensures.1 c.in_err-spanned.ensures

pub returns-in_err-addressed : goal.returns-in_err-addressed
returns-in_err-addressed g c =
    handed_on (g.J.Finds.machine c.args.job.now) (g.J.Finds.link c.args.job.now) c.in_err-addressed.field-0.0 c.from_residual-in_err-addressed.result c.from_residual-in_err-addressed.ensures.1 c.in_err-addressed.ensures
