use Rattle.lk_explain.proofs.LawLemmas.{reached_is_shown}
use Rattle.lk_explain.proofs.laws.reached_is_shown.Goals as goal

pub returns : goal.returns
returns c = reached_is_shown
