use Rattle.lk_relax.proofs.Keeping as proof
use Rattle.lk_relax.proofs.laws.sizes_fall_by_passes.Goals as goal

pub returns : goal.returns
returns c = proof.sizes_fall_by_passes
