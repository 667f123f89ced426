use Rattle.lk_expressions.proofs.Unnamed.{unnamed_read_no_symbols}
use Rattle.lk_expressions.proofs.laws.unnamed_read_no_symbols.Goals as goal

pub returns : goal.returns
returns c = unnamed_read_no_symbols
