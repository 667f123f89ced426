use Rattle.lk_input.proofs.Plain.{plain-truth}
use Rattle.lk_input.proofs.read.plain.BoolPlain.plain.Goals as goal

pub returns-in-Bool : goal.returns-in-Bool
returns-in-Bool c = rw c.in-Bool.is (plain-truth c.in-Bool.truth)
