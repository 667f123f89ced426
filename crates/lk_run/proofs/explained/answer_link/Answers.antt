use Rattle.std.proofs.Common.{sym, ◌∙◌}
use Rattle.lk_check.specs.FirstFault.{first_fault}
use Rattle.lk_run.proofs.Ways.{fault_none, fault_some, told_fault, told_unfaulted}
use Rattle.lk_run.proofs.explained.answer_link.Goals as goal

pub returns-in-Ok : goal.returns-in-Ok
returns-in-Ok c =
    told_unfaulted c.answer_section.result c.args.link.now c.args.section c.args.index
    (fault_none (first_fault c.args.link.now) (sym c.in-Ok.is ∙ c.check_link.ensures.exact)) c.answer_section.ensures

pub returns-in-Err : goal.returns-in-Err
returns-in-Err c =
    told_fault c.answer_fault.result c.args.link.now c.args.section c.args.index c.in-Err.fault
    (fault_some (first_fault c.args.link.now) c.in-Err.fault (sym c.in-Err.is ∙ c.check_link.ensures.exact)) c.answer_fault.ensures
