use Rattle.lk_check.proofs.Unfaulted.{exactly_unfaulted}
use Rattle.lk_check.proofs.well_formed_exactly_unfaulted.Goals as goal

pub returns : goal.returns
returns c = exactly_unfaulted
