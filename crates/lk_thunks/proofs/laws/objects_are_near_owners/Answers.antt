use Rattle.lk_thunks.proofs.Windows.{near_owners}
use Rattle.lk_thunks.proofs.laws.objects_are_near_owners.Goals as goal

pub returns : goal.returns
returns c = near_owners
