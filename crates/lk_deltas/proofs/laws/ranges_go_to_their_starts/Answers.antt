use Rattle.lk_deltas.proofs.Offsets as proof
use Rattle.lk_deltas.proofs.laws.ranges_go_to_their_starts.Goals as goal

pub returns : goal.returns
returns c = proof.ranges_go_to_their_starts
