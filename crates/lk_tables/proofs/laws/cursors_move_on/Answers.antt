use Rattle.lk_tables.proofs.OwnLemmas.{cursors_move_on}
use Rattle.lk_tables.proofs.laws.cursors_move_on.Goals as goal

pub returns : goal.returns
returns c = cursors_move_on
