use Rattle.lk_grid.proofs.Steps as proof
use Rattle.lk_grid.proofs.laws.merging_ends.Goals as goal

pub returns : goal.returns
returns g c = proof.merging_ends
