use Rattle.lk_size_laws.proofs.OwnerPlaces.{entries_are_owners}
use Rattle.lk_size_laws.proofs.laws.entries_are_owners.Goals as goal

pub returns : goal.returns
returns c = entries_are_owners
