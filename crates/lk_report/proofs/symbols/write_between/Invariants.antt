use Rattle.std.proofs.Common.{◌≡◌, ◌++◌}
use Rattle.std.specs.Prelude.{string_bytes}
use Rattle.lk_report.specs.SymbolParts.{lines_from}
use Rattle.lk_report.proofs.symbols.write_between.Given as goal

-- what is left is to follow what is written
abbrev pub invariant-loop-number : goal.invariant-loop-number
invariant-loop-number l = string_bytes l.text ++ lines_from l.resolutions l.number ≡ string_bytes l.initial.text ++ lines_from l.resolutions l.from
