use Rattle.lk_live.proofs.Living.{live_is_one}
use Rattle.lk_live.proofs.laws.live_is_one.Goals as goal

pub returns : goal.returns
returns c = live_is_one
