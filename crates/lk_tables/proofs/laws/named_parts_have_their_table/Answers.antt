use Rattle.lk_tables.proofs.PartLists.{named_parts}
use Rattle.lk_tables.proofs.laws.named_parts_have_their_table.Goals as goal

pub returns : goal.returns
returns c = named_parts
