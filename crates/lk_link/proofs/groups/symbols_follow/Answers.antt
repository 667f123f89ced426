use Rattle.lk_link.proofs.SymbolLemmas.{symbols_follow}
use Rattle.lk_link.proofs.groups.symbols_follow.Goals as goal

pub returns : goal.returns
returns c = symbols_follow
