use Rattle.std.proofs.Common.{◌≡◌, ◌++◌, drop}
use Rattle.std.specs.Prelude.{string_bytes}
use Rattle.lk_report.specs.Report.{each, segment_line}
use Rattle.lk_report.proofs.report.write_segments.Given as goal

abbrev pub invariant-loop-segment : goal.invariant-loop-segment
invariant-loop-segment l = string_bytes l.text ++ each (λ _ segment. segment_line segment) l.segment-index (drop l.segment-index l.segments) ≡ string_bytes l.initial.text ++ each (λ _ segment. segment_line segment) 0 l.segments
