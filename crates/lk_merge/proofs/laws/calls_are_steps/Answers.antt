use Rattle.lk_merge.proofs.CallSteps as proof
use Rattle.lk_merge.proofs.laws.calls_are_steps.Goals as goal

pub returns : goal.returns
returns g c = proof.calls_are_steps _
