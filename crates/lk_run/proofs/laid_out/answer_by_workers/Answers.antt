use Rattle.std.proofs.Common.{rules, Ok}
use Rattle.lk_layout.specs.Defined.{Gives}
use Rattle.lk_layout.specs.Machines.{small64_machine}
use Rattle.lk_run.proofs.laid_out.answer_by_workers.Goals as goal

pub report_is_map-requires : goal.report_is_map-requires
report_is_map-requires g c =
    let given : Gives small64_machine c.args.link.now (Ok c.in-Ok.layout) = rw c.in-Ok.is at c.requires in
    record { good = c.laid_out_links_are_well_formed.ensures small64_machine c.args.link.now c.in-Ok.layout given }

pub report_text_by_workers-requires-clause-good : goal.report_text_by_workers-requires-clause-good
report_text_by_workers-requires-clause-good g c = λ _ _.
    let given : Gives small64_machine c.args.link.now (Ok c.in-Ok.layout) = rw c.in-Ok.is at c.requires in
    c.laid_out_links_are_well_formed.ensures small64_machine c.args.link.now c.in-Ok.layout given

pub returns-in_ok-report_text_by_workers-in-Ok : goal.returns-in_ok-report_text_by_workers-in-Ok
returns-in_ok-report_text_by_workers-in-Ok g c =
    let given : Gives small64_machine c.args.link.now (Ok c.in-Ok.layout) = rw c.in-Ok.is at c.requires in
    (Ok c.in-Ok.layout, given, search rules, c.report_is_map.ensures small64_machine c.small64_machine_is_lawful.ensures given)
