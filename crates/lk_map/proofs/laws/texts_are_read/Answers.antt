use Rattle.lk_map.proofs.Refused.{texts_are_read}
use Rattle.lk_map.proofs.laws.texts_are_read.Goals as goal

pub returns : goal.returns
returns c = texts_are_read
