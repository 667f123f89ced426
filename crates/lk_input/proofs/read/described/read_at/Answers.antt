use Rattle.lk_input.proofs.Steps.{Fails-below}
use Rattle.lk_input.proofs.read.described.read_at.Goals as goal

pub returns-in-Err : goal.returns-in-Err
returns-in-Err g c = Fails-below _ _ _ _ c.in-Err.ensures c.below.ensures
