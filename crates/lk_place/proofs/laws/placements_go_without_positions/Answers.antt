use Rattle.lk_place.proofs.WithoutPositions as proof
use Rattle.lk_place.proofs.laws.placements_go_without_positions.Goals as goal

pub returns : goal.returns
returns c = proof.placements_alike
