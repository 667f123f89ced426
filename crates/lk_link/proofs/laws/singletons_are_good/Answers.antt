use Rattle.lk_link.proofs.GoodLinks.{good_singletons}
use Rattle.lk_link.proofs.laws.singletons_are_good.Goals as goal

pub returns : goal.returns
returns c = λ link s h e. good_singletons link s h.singletons e
