use Rattle.lk_live.proofs.Living.{live_exists}
use Rattle.lk_live.proofs.laws.live_exists.Goals as goal

pub returns : goal.returns
returns c = live_exists
