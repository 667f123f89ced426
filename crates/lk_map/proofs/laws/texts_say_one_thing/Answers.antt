use Rattle.lk_map.proofs.Refused.{texts_say_one_thing}
use Rattle.lk_map.proofs.laws.texts_say_one_thing.Goals as goal

pub returns : goal.returns
returns c = texts_say_one_thing
