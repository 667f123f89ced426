use Rattle.lk_slot_link.proofs.Behind as proof
use Rattle.lk_slot_link.proofs.laws.steps_are_sound_in.Goals as goal

pub returns : goal.returns
returns c = proof.steps_are_sound_in
