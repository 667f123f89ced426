use Rattle.lk_merge.proofs.TooLong.{fitting_is_not_too_long}
use Rattle.lk_merge.proofs.laws.fitting_is_not_too_long.Goals as goal

pub returns : goal.returns
returns c = fitting_is_not_too_long
