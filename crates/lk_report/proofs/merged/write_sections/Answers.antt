use Rattle.std.proofs.Common.{rules, arith}
use Rattle.lk_report.specs.Report.{merged_text}
use Rattle.lk_report.proofs.Lines.{goes_on, ends}
use Rattle.lk_report.proofs.merged.write_sections.Goals as goal

pub loop-number-preserved : goal.loop-number-preserved
loop-number-preserved c =
    goes_on (merged_text c.args.starts.now) _ c.args.merged.now _ _ _ _ _ (omega arith) c.index-merged-number.is c.loop-number.invariant (search rules)

pub returns : goal.returns
returns c = ends (merged_text c.args.starts.now) _ c.args.merged.now _ _ _ (omega arith) c.loop-number.invariant
