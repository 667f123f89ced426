use Rattle.lk_tables.proofs.IndexLemmas.{indexes_name_entries}
use Rattle.lk_tables.proofs.laws.indexes_name_entries.Goals as goal

pub returns : goal.returns
returns c = indexes_name_entries
