use Rattle.lk_tables.proofs.PartLists.{other_parts}
use Rattle.lk_tables.proofs.laws.other_parts_have_no_entries.Goals as goal

pub returns : goal.returns
returns c = other_parts
