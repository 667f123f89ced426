use Rattle.lk_deltas.proofs.Apart as proof
use Rattle.lk_deltas.proofs.laws.apart_have_both.Goals as goal

pub returns : goal.returns
returns c = proof.apart_have_both
