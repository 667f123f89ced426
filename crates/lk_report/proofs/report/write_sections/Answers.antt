use Rattle.std.proofs.Common.{rules, arith}
use Rattle.lk_report.specs.Report.{laid_out_text}
use Rattle.lk_report.proofs.Lines.{goes_on_by_number, ends}
use Rattle.lk_report.proofs.report.write_sections.Goals as goal

pub loop-number-preserved : goal.loop-number-preserved
loop-number-preserved c =
    goes_on_by_number (laid_out_text c.args.layout.now) _ c.args.sections.now _ _ _ _ (omega arith) c.loop-number.invariant (search rules)

pub returns : goal.returns
returns c = ends (λ s _. laid_out_text c.args.layout.now s) _ c.args.sections.now _ _ _ (omega arith) c.loop-number.invariant
