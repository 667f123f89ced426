use Rattle.lk_place_laws.proofs.BaseLaws.{memory_leaves_room}
use Rattle.lk_place_laws.proofs.laws.memory_leaves_room.Goals as goal

pub returns : goal.returns
returns c = memory_leaves_room
