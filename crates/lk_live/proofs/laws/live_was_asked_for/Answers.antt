use Rattle.lk_live.proofs.LawLemmas as lemma
use Rattle.lk_live.proofs.laws.live_was_asked_for.Goals as goal

pub returns : goal.returns
returns c = lemma.live_was_asked_for
