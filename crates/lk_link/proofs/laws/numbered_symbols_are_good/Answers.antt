use Rattle.lk_link.proofs.GoodSymbols.{numbered_symbol}
use Rattle.lk_link.proofs.laws.numbered_symbols_are_good.Goals as goal

pub returns : goal.returns
returns c = numbered_symbol
