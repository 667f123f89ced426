use Rattle.lk_place_laws.proofs.RefusalLaws.{refused_exactly_past}
use Rattle.lk_place_laws.proofs.laws.refused_exactly_past.Goals as goal

pub returns : goal.returns
returns c = refused_exactly_past
