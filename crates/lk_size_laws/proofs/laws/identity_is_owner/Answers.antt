use Rattle.lk_size_laws.proofs.OwnerPlaces.{identity_is_owner}
use Rattle.lk_size_laws.proofs.laws.identity_is_owner.Goals as goal

pub returns : goal.returns
returns c = identity_is_owner
