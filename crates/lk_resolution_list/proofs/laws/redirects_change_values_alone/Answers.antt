use Rattle.lk_resolution_list.proofs.ValuesSet.{change_values_alone}
use Rattle.lk_resolution_list.proofs.laws.redirects_change_values_alone.Goals as goal

pub returns : goal.returns
returns c = change_values_alone
