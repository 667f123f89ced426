use Rattle.lk_link.proofs.GoodLinks.{primary_is_other}
use Rattle.lk_link.proofs.laws.primaries_are_others.Goals as goal

pub returns : goal.returns
returns c = primary_is_other
