use Rattle.lk_link.proofs.GoodLinks.{few}
use Rattle.lk_link.proofs.laws.lists_are_few.Goals as goal

pub returns : goal.returns
returns c = few
