use Rattle.std.proofs.Common.{arith}
use Rattle.lk_report.specs.Report.{symbol_text}
use Rattle.lk_report.proofs.Lines.{ends}
use Rattle.lk_report.proofs.symbols.write_symbols.Goals as goal

pub returns : goal.returns
returns c = ends symbol_text c.len.result c.args.resolutions.now c.len.result _ _ (omega arith) c.in_ok-write_between.ensures
