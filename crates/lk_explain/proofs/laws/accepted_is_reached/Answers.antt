use Rattle.lk_explain.proofs.LawLemmas.{accepted_is_reached}
use Rattle.lk_explain.proofs.laws.accepted_is_reached.Goals as goal

pub returns : goal.returns
returns c = accepted_is_reached
