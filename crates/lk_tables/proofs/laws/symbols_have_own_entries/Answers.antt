use Rattle.lk_tables.proofs.OwnCounts.{symbols_have_own_entries}
use Rattle.lk_tables.proofs.laws.symbols_have_own_entries.Goals as goal

pub returns : goal.returns
returns c = symbols_have_own_entries
