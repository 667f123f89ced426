use Rattle.lk_reach.proofs.PlainAsks as lemma
use Rattle.lk_reach.proofs.laws.resolved_is_reached.Goals as goal

pub returns : goal.returns
returns c = lemma.resolved_is_reached
