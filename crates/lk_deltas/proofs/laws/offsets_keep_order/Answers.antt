use Rattle.lk_deltas.proofs.Offsets as proof
use Rattle.lk_deltas.proofs.laws.offsets_keep_order.Goals as goal

pub returns : goal.returns
returns c = proof.offsets_keep_order
