use Rattle.lk_live.proofs.LawLemmas as lemma
use Rattle.lk_live.proofs.laws.groups_stay_together.Goals as goal

pub returns : goal.returns
returns c = lemma.groups_stay_together c.group_members_rise.ensures
