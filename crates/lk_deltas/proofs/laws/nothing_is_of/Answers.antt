use Rattle.lk_deltas.proofs.CandidateLemmas as proof
use Rattle.lk_deltas.proofs.laws.nothing_is_of.Goals as goal

pub returns : goal.returns
returns c = proof.nothing_is_of
