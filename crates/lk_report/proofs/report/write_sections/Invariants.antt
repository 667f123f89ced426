use Rattle.std.proofs.Common.{◌≡◌, ◌++◌, drop}
use Rattle.std.specs.Prelude.{string_bytes}
use Rattle.lk_report.specs.Report.{each, laid_out_text}
use Rattle.lk_report.proofs.report.write_sections.Given as goal

abbrev pub invariant-loop-number : goal.invariant-loop-number
invariant-loop-number l = string_bytes l.text ++ each (λ s _. laid_out_text l.layout s) l.number (drop l.number l.sections) ≡ string_bytes l.initial.text ++ each (λ s _. laid_out_text l.layout s) 0 l.sections
