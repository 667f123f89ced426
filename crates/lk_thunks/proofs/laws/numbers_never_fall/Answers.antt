use Rattle.lk_thunks.proofs.UserLaws.{never_fall}
use Rattle.lk_thunks.proofs.laws.numbers_never_fall.Goals as goal

pub returns : goal.returns
returns c = never_fall
