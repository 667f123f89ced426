use Rattle.std.proofs.Common.{◌≡◌, drop, map}
use Rattle.std.specs.Prelude.{fold, max}
use Rattle.lk_expressions.specs.Records.{mem_end}
use Rattle.lk_report.specs.Summary.{greatest_end}
use Rattle.lk_report.proofs.summary.memory_end.Given as goal

-- the greatest so far and of what is left is the greatest of all
abbrev pub invariant-loop-part : goal.invariant-loop-part
invariant-loop-part l = fold max l.end (map mem_end (drop l.part-index l.parts)) ≡ greatest_end l.parts
