use Rattle.std.proofs.Common.{rules, arith}
use Rattle.lk_report.specs.Report.{segment_line}
use Rattle.lk_report.proofs.Lines.{goes_on, ends}
use Rattle.lk_report.proofs.report.write_segments.Goals as goal

pub loop-segment-preserved : goal.loop-segment-preserved
loop-segment-preserved c =
    goes_on (λ _ segment. segment_line segment) _ c.args.segments.now _ _ _ _ _ (omega arith) c.segment-item.is c.loop-segment.invariant (search rules)

pub returns : goal.returns
returns c = ends (λ _ segment. segment_line segment) _ c.args.segments.now _ _ _ (omega arith) c.loop-segment.invariant
