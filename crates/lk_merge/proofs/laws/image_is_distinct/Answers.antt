use Rattle.lk_merge.proofs.DistinctLemmas.{image_is_distinct}
use Rattle.lk_merge.proofs.laws.image_is_distinct.Goals as goal

pub returns : goal.returns
returns c = image_is_distinct
