use Rattle.lk_link.proofs.GoodFiles.{tables_there}
use Rattle.lk_link.proofs.laws.tables_are_there.Goals as goal

pub returns : goal.returns
returns c = tables_there
