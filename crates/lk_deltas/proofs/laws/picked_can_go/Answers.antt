use Rattle.lk_deltas.proofs.CandidateLemmas as proof
use Rattle.lk_deltas.proofs.laws.picked_can_go.Goals as goal

pub returns : goal.returns
returns c = proof.picked_can_go
