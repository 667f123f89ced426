use Rattle.lk_live.proofs.LawLemmas as lemma
use Rattle.lk_live.proofs.laws.asked_for_is_live.Goals as goal

pub returns : goal.returns
returns c = lemma.asked_for_is_live
