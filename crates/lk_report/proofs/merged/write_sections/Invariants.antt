use Rattle.std.proofs.Common.{◌≡◌, ◌++◌, drop}
use Rattle.std.specs.Prelude.{string_bytes}
use Rattle.lk_report.specs.Report.{each, merged_text}
use Rattle.lk_report.proofs.merged.write_sections.Given as goal

abbrev pub invariant-loop-number : goal.invariant-loop-number
invariant-loop-number l = string_bytes l.text ++ each (merged_text l.starts) l.number (drop l.number l.merged) ≡ string_bytes l.initial.text ++ each (merged_text l.starts) 0 l.merged
