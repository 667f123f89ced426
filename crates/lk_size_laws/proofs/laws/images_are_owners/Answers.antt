use Rattle.lk_sizes.proofs.ImageStarts.{images_are_owners}
use Rattle.lk_size_laws.proofs.laws.images_are_owners.Goals as goal

pub returns : goal.returns
returns c = images_are_owners
