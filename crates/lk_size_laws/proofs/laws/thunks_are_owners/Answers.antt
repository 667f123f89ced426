use Rattle.lk_sizes.proofs.ThunkOwners.{thunks_are_owners}
use Rattle.lk_size_laws.proofs.laws.thunks_are_owners.Goals as goal

pub returns : goal.returns
returns c = thunks_are_owners
