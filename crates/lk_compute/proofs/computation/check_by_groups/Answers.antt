use Rattle.lk_check.specs.FirstFault.{first_fault}
use Rattle.lk_layout.specs.Stages.{IsChecked, Reaches}
use Rattle.lk_layout.proofs.Answering.{err_exit, fault_none, fault_some, faulty}
use Rattle.lk_compute.proofs.computation.check_by_groups.Goals as goal

pub returns-in_err-check_link_by_groups : goal.returns-in_err-check_link_by_groups
returns-in_err-check_link_by_groups g c machine =
    let link = c.args.link.now in
    let fault = c.in_err-check_link_by_groups.field-0.0 in
    err_exit (Reaches machine link (λ (u : Unit {0}). IsChecked link)) _ c.from_residual.result c.from_residual.ensures.1
    (λ e is. faulty machine link fault e (fault_some (first_fault link) fault c.in_err-check_link_by_groups.ensures.exact) is)

pub returns : goal.returns
returns g c machine = record { faultless = fault_none (first_fault c.args.link.now) c.in_ok-check_link_by_groups.ensures.exact; good = c.in_ok-check_link_by_groups.ensures.well_formed }
