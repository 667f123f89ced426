use Rattle.lk_workers.proofs.Turning as proof
use Rattle.lk_workers.proofs.laws.asks_are_turns.Goals as goal

pub returns : goal.returns
returns c = proof.asks_are_turns
