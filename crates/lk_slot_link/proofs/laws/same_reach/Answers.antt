use Rattle.lk_slot_link.proofs.Behind as proof
use Rattle.lk_slot_link.proofs.laws.same_reach.Goals as goal

pub returns : goal.returns
returns c = proof.same_reach
