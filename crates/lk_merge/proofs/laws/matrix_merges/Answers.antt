use Rattle.lk_merge.proofs.Matrix as proof
use Rattle.lk_merge.proofs.laws.matrix_merges.Goals as goal

pub returns : goal.returns
returns c = proof.matrix_merges
