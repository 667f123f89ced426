use Rattle.std.proofs.Common.{◌≡◌, ◌++◌, drop}
use Rattle.std.specs.Prelude.{string_bytes}
use Rattle.lk_report.specs.Report.{block_text, each}
use Rattle.lk_report.proofs.thunks.write_blocks.Given as goal

abbrev pub invariant-loop-number : goal.invariant-loop-number
invariant-loop-number l = string_bytes l.text ++ each block_text l.number (drop l.number l.owners) ≡ string_bytes l.initial.text ++ each block_text 0 l.owners
