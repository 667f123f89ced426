use Rattle.lk_tables.proofs.EntryOwning.{tables_begin_with_own}
use Rattle.lk_tables.proofs.laws.tables_begin_with_own.Goals as goal

pub returns : goal.returns
returns c = tables_begin_with_own
