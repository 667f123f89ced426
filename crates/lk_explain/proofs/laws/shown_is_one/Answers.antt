use Rattle.lk_explain.proofs.LawLemmas.{shown_is_one}
use Rattle.lk_explain.proofs.laws.shown_is_one.Goals as goal

pub returns : goal.returns
returns c = shown_is_one
