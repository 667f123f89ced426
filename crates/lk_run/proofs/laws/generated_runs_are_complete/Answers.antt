use Rattle.lk_run.proofs.Completeness.{generated_complete}
use Rattle.lk_run.proofs.laws.generated_runs_are_complete.Goals as goal

pub returns : goal.returns
returns c = generated_complete
