use Rattle.lk_deltas.proofs.Together as proof
use Rattle.lk_deltas.proofs.laws.both_are_one.Goals as goal

pub returns : goal.returns
returns c = proof.both_are_one
