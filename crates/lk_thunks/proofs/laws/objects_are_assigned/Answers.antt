use Rattle.lk_thunks.proofs.UserLaws.{all_assigned, is_assigned}
use Rattle.lk_thunks.proofs.laws.objects_are_assigned.Goals as goal

pub returns : goal.returns
returns c = record { count = all_assigned; each = is_assigned }
