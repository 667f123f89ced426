use Rattle.lk_live.proofs.LawLemmas as lemma
use Rattle.lk_live.proofs.laws.all_is_live.Goals as goal

pub returns : goal.returns
returns c = lemma.all_is_live
