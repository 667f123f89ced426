use Rattle.lk_slot_link.proofs.Behind as proof
use Rattle.lk_slot_link.proofs.laws.quiet_states_are_all.Goals as goal

pub returns : goal.returns
returns c = proof.quiet_states_are_all
