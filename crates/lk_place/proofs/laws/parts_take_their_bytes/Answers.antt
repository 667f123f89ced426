use Rattle.lk_place.proofs.MassLaws.{parts_take_their_bytes}
use Rattle.lk_place.proofs.laws.parts_take_their_bytes.Goals as goal

pub returns : goal.returns
returns c = parts_take_their_bytes
