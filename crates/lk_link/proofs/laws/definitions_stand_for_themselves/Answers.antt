use Rattle.lk_link.proofs.GoodSymbols.{defined_once}
use Rattle.lk_link.proofs.laws.definitions_stand_for_themselves.Goals as goal

pub returns : goal.returns
returns c = defined_once
