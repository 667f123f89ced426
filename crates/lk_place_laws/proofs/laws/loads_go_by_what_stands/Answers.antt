use Rattle.lk_place_laws.proofs.LoadLaws.{loads_go_by_what_stands}
use Rattle.lk_place_laws.proofs.laws.loads_go_by_what_stands.Goals as goal

pub returns : goal.returns
returns c = loads_go_by_what_stands
