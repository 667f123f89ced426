use Rattle.lk_relax.proofs.StillParts as proof
use Rattle.lk_relax.proofs.laws.still_passes_keep_parts.Goals as goal

pub returns : goal.returns
returns c = proof.still_passes_keep_parts
