use Rattle.std.proofs.Common.{◌≡◌, ◌++◌, drop}
use Rattle.std.specs.Prelude.{string_bytes}
use Rattle.lk_layout.specs.Layouts.{thunk_address}
use Rattle.lk_report.specs.Report.{block_thunks, each, thunk_line}
use Rattle.lk_report.proofs.thunks.write_thunks_of.Given as goal

abbrev pub invariant-loop-place : goal.invariant-loop-place
invariant-loop-place l =
    string_bytes l.text ++ each (λ k s. thunk_line l.block s (thunk_address l.layout l.block k)) l.place (drop l.place l.symbols)
    ≡ string_bytes l.initial.text ++ block_thunks l.layout l.block l.symbols
