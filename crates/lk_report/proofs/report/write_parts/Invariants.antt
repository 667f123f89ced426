use Rattle.std.proofs.Common.{◌≡◌, ◌++◌, drop}
use Rattle.std.specs.Prelude.{string_bytes}
use Rattle.lk_report.specs.Report.{each, section_part_lines}
use Rattle.lk_report.proofs.report.write_parts.Given as goal

abbrev pub invariant-loop-number : goal.invariant-loop-number
invariant-loop-number l = string_bytes l.text ++ each (λ s section. section_part_lines l.sections l.parts s) l.number (drop l.number l.sections) ≡ string_bytes l.initial.text ++ each (λ s section. section_part_lines l.sections l.parts s) 0 l.sections
