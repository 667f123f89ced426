use Rattle.lk_link.proofs.Powers.{alignments_are_powers}
use Rattle.lk_link.proofs.alignment.alignments_are_powers.Goals as goal

pub returns : goal.returns
returns c = alignments_are_powers
