use Rattle.lk_slots.proofs.Behind as proof
use Rattle.lk_slots.proofs.laws.steps_are_complete.Goals as goal

pub returns : goal.returns
returns c = proof.steps_are_complete
