use Rattle.lk_relax.proofs.Shrinking as proof
use Rattle.lk_relax.proofs.laws.passes_shrink.Goals as goal

pub returns : goal.returns
returns c = proof.passes_shrink c.shrunk_are_of.ensures c.picked_are_new.ensures c.offsets_only_fall.ensures
