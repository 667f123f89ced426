use Rattle.lk_size_laws.proofs.OwnersOnce.{owners_stand_once}
use Rattle.lk_size_laws.proofs.laws.owners_stand_once.Goals as goal

pub returns : goal.returns
returns c = owners_stand_once
