use Rattle.lk_merge.proofs.PlaceLemmas.{buckets_start}
use Rattle.lk_merge.proofs.laws.buckets_start.Goals as goal

pub returns : goal.returns
returns c = buckets_start
