use Rattle.lk_merge.proofs.Showing.{merged_addresses_show}
use Rattle.lk_merge.proofs.laws.merged_addresses_show.Goals as goal

pub returns : goal.returns
returns c = merged_addresses_show
