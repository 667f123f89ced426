use Rattle.lk_tables.proofs.OwnLemmas.{cursors_reach_entries}
use Rattle.lk_tables.proofs.laws.cursors_reach_entries.Goals as goal

pub returns : goal.returns
returns c = cursors_reach_entries
