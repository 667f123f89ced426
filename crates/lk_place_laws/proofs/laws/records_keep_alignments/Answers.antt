use Rattle.lk_place_laws.proofs.KeptAlignments.{records_keep_alignments}
use Rattle.lk_place_laws.proofs.laws.records_keep_alignments.Goals as goal

pub returns : goal.returns
returns c = records_keep_alignments
