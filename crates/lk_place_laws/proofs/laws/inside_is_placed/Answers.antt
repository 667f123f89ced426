use Rattle.lk_place_laws.proofs.InsideLaws.{inside_is_placed}
use Rattle.lk_place_laws.proofs.laws.inside_is_placed.Goals as goal

pub returns : goal.returns
returns c = inside_is_placed
