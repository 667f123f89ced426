use Rattle.lk_link.proofs.GoodLinks.{good_options}
use Rattle.lk_link.proofs.laws.options_are_good.Goals as goal

pub returns : goal.returns
returns c = λ link h. good_options link.groups link.options h.options
