use Rattle.lk_workers.proofs.GivingUp as proof
use Rattle.lk_workers.proofs.laws.steps_given_up_are_machine_steps.Goals as goal

pub returns : goal.returns
returns c = proof.steps_given_up_are_machine_steps
