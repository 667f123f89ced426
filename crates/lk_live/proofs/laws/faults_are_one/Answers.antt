use Rattle.lk_live.proofs.FaultOrder.{faults_are_one}
use Rattle.lk_live.proofs.laws.faults_are_one.Goals as goal

pub returns : goal.returns
returns c = faults_are_one
