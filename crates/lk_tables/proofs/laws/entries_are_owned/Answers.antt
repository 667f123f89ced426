use Rattle.lk_tables.proofs.EntryOwning.{entries_are_owned}
use Rattle.lk_tables.proofs.laws.entries_are_owned.Goals as goal

pub returns : goal.returns
returns c = entries_are_owned
