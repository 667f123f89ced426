use Rattle.lk_merge.proofs.MergedReferences.{merged_references_show}
use Rattle.lk_merge.proofs.laws.merged_references_show.Goals as goal

pub returns : goal.returns
returns c = merged_references_show
