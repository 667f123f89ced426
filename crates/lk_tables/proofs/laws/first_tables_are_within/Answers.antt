use Rattle.lk_tables.proofs.WithinLemmas.{first_tables_are_within}
use Rattle.lk_tables.proofs.laws.first_tables_are_within.Goals as goal

pub returns : goal.returns
returns c = first_tables_are_within
