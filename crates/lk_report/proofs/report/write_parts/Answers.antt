use Rattle.std.proofs.Common.{◌<◌, ◌≤◌, length, rules}
use Rattle.lk_report.specs.Report.{section_part_lines}
use Rattle.lk_report.proofs.Lines.{goes_on_by_number, ends}
use Rattle.lk_report.proofs.report.write_parts.Goals as goal

pub loop-number-preserved : goal.loop-number-preserved
loop-number-preserved c =
    let sections = c.args.sections.now in
    let below : c.loop-number.number < length sections = rw (← c.as_slice-items.ensures) c.loop-number-test.true in
    goes_on_by_number (section_part_lines sections c.args.parts.now) _ sections _ _ _ _ below c.loop-number.invariant (search rules)

pub returns : goal.returns
returns c =
    let sections = c.args.sections.now in
    let behind : length sections ≤ c.loop-number.number = rw (← c.as_slice-items.ensures) c.loop-number-test.false in
    ends (λ s _. section_part_lines sections c.args.parts.now s) _ sections _ _ _ behind c.loop-number.invariant
