use Rattle.lk_slot_link.proofs.Behind as proof
use Rattle.lk_slot_link.proofs.laws.graphs_are_whole.Goals as goal

pub returns : goal.returns
returns c = proof.graphs_are_whole
