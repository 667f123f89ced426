use Rattle.lk_size_laws.proofs.ToldByTable.{table_tells_live_sections}
use Rattle.lk_size_laws.proofs.laws.table_tells_live_sections.Goals as goal

pub returns : goal.returns
returns c = table_tells_live_sections
