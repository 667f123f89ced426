use Rattle.lk_link.proofs.InputLemmas.{inputs_follow}
use Rattle.lk_link.proofs.groups.inputs_follow.Goals as goal

pub returns : goal.returns
returns c = inputs_follow
