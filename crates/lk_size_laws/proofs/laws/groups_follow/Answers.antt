use Rattle.lk_size_laws.proofs.GroupsFollow.{groups_follow}
use Rattle.lk_size_laws.proofs.laws.groups_follow.Goals as goal

pub returns : goal.returns
returns c = groups_follow
