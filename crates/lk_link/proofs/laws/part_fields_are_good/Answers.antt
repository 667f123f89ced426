use Rattle.lk_link.proofs.GoodPartFields.{good_part_fields}
use Rattle.lk_link.proofs.laws.part_fields_are_good.Goals as goal

pub returns : goal.returns
returns c = good_part_fields
