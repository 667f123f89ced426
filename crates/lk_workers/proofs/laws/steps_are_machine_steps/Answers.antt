use Rattle.lk_workers.proofs.Stepping as proof
use Rattle.lk_workers.proofs.laws.steps_are_machine_steps.Goals as goal

pub returns : goal.returns
returns c = proof.steps_are_machine_steps
