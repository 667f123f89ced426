use Rattle.std.proofs.Common.{◌≡◌, ◌+◌, ◌++◌, drop}
use Rattle.std.specs.Prelude.{string_bytes}
use Rattle.lk_report.specs.Report.{each, part_text, told_lines}
use Rattle.lk_report.proofs.report.write_told.Given as goal

abbrev pub invariant-loop-offset : goal.invariant-loop-offset
invariant-loop-offset l = string_bytes l.text ++ each (part_text l.is_empty l.first) (l.first + l.offset) (drop l.offset l.parts) ≡ string_bytes l.initial.text ++ told_lines l.first l.parts
