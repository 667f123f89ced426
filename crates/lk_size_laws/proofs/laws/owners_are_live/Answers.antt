use Rattle.lk_size_laws.proofs.OwnersLive.{owners_are_live}
use Rattle.lk_size_laws.proofs.laws.owners_are_live.Goals as goal

pub returns : goal.returns
returns c = owners_are_live
