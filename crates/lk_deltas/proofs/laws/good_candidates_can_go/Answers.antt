use Rattle.lk_deltas.proofs.CandidateLemmas as proof
use Rattle.lk_deltas.proofs.laws.good_candidates_can_go.Goals as goal

pub returns : goal.returns
returns c = proof.good_candidates_can_go
