use Rattle.lk_grid.proofs.Steps.{buckets_hold}
use Rattle.lk_grid.proofs.laws.buckets_hold_their_groups.Goals as goal

pub returns : goal.returns
returns g c = buckets_hold
