use Rattle.lk_deltas.proofs.CandidateLemmas as proof
use Rattle.lk_deltas.proofs.laws.shrunk_are_of.Goals as goal

pub returns : goal.returns
returns c = proof.shrunk_are_of
