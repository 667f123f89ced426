use Rattle.std.proofs.Common.{rules, Ok, Err}
use Rattle.lk_layout.specs.Defined.{Gives}
use Rattle.lk_layout.specs.Machines.{small64_machine}
use Rattle.lk_run.proofs.Refusals.{refusal_is_defined}
use Rattle.lk_run.proofs.laid_out.answer_computed.Goals as goal

pub report_is_map-requires : goal.report_is_map-requires
report_is_map-requires c =
    let given : Gives small64_machine c.args.link.now (Ok c.in-Ok.layout) = rw c.in-Ok.is at c.requires in
    record { good = c.laid_out_links_are_well_formed.ensures small64_machine c.args.link.now c.in-Ok.layout given }

pub report_text-requires : goal.report_text-requires
report_text-requires c =
    let given : Gives small64_machine c.args.link.now (Ok c.in-Ok.layout) = rw c.in-Ok.is at c.requires in
    record { good = c.laid_out_links_are_well_formed.ensures small64_machine c.args.link.now c.in-Ok.layout given }

pub returns-in_ok-fault_text-in-Err : goal.returns-in_ok-fault_text-in-Err
returns-in_ok-fault_text-in-Err c =
    let given : Gives small64_machine c.args.link.now (Err c.in-Err.fault) = rw c.in-Err.is at c.requires in
    (Err c.in-Err.fault, refusal_is_defined small64_machine c.args.link.now c.in-Err.fault given (search rules), search rules, tt)

pub returns-in_ok-report_text-in-Ok : goal.returns-in_ok-report_text-in-Ok
returns-in_ok-report_text-in-Ok c =
    let given : Gives small64_machine c.args.link.now (Ok c.in-Ok.layout) = rw c.in-Ok.is at c.requires in
    (Ok c.in-Ok.layout, given, search rules, c.report_is_map.ensures small64_machine c.small64_machine_is_lawful.ensures given)
