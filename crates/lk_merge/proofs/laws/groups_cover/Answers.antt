use Rattle.lk_merge.proofs.Covering.{groups_cover}
use Rattle.lk_merge.proofs.laws.groups_cover.Goals as goal

pub returns : goal.returns
returns c = groups_cover
