use Rattle.std.proofs.Common.{Err}
use Rattle.lk_layout.specs.Stages.{IsKept, Reaches}
use Rattle.lk_layout.proofs.Answering.{err_exit, unmet}
use Rattle.lk_compute.proofs.Reaching.{from_merged}
use Rattle.lk_compute.proofs.computation.keep_by_workers.Goals as goal

pub returns-in_err-live : goal.returns-in_err-live
returns-in_err-live g c machine =
    let link = c.args.link.now in
    err_exit (Reaches machine link (IsKept link)) _ c.from_residual.result c.from_residual.ensures.1 (λ e is.
    from_merged machine link c.args.images (Err e) c.requires.merged (unmet machine link c.in_err-live.field-0.0 e c.in_err-live.ensures is))
