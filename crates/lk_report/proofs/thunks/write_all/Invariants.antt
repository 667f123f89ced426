use Rattle.std.proofs.Common.{◌≡◌, ◌++◌, drop}
use Rattle.std.specs.Prelude.{string_bytes}
use Rattle.lk_report.specs.Report.{block_thunks, each}
use Rattle.lk_report.proofs.thunks.write_all.Given as goal

abbrev pub invariant-loop-number : goal.invariant-loop-number
invariant-loop-number l =
    string_bytes l.text ++ each (λ b block. block_thunks l.layout b block.symbols) l.number (drop l.number l.blocks)
    ≡ string_bytes l.initial.text ++ each (λ b block. block_thunks l.layout b block.symbols) 0 l.blocks
