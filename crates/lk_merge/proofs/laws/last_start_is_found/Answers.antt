use Rattle.lk_merge.proofs.Locating.{last_start_is_found}
use Rattle.lk_merge.proofs.laws.last_start_is_found.Goals as goal

pub returns : goal.returns
returns c = last_start_is_found
