use Rattle.lk_link.proofs.GoodSymbols.{symbol_of}
use Rattle.lk_link.proofs.laws.symbols_are_good.Goals as goal

pub returns : goal.returns
returns c = symbol_of
