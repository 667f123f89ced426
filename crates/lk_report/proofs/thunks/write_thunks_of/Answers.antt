use Rattle.std.proofs.Common.{rules, arith}
use Rattle.lk_layout.specs.Layouts.{thunk_address}
use Rattle.lk_report.specs.Report.{thunk_line}
use Rattle.lk_report.proofs.Lines.{goes_on, ends}
use Rattle.lk_report.proofs.thunks.write_thunks_of.Goals as goal

pub loop-place-preserved : goal.loop-place-preserved
loop-place-preserved c =
    goes_on (λ k s. thunk_line c.args.block s (thunk_address c.args.layout.now c.args.block k)) _ c.args.symbols.now _ _ _ _ _ (omega arith) c.index-symbols-place.is c.loop-place.invariant (search rules)

pub returns : goal.returns
returns c = ends (λ k s. thunk_line c.args.block s (thunk_address c.args.layout.now c.args.block k)) _ c.args.symbols.now _ _ _ (omega arith) c.loop-place.invariant
