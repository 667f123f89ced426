use Rattle.lk_slot_link.proofs.Fitting as proof
use Rattle.lk_slot_link.proofs.laws.lists_fit.Goals as goal

pub returns : goal.returns
returns c = proof.lists_fit
