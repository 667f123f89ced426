use Rattle.lk_run.proofs.Completeness.{complete}
use Rattle.lk_run.proofs.laws.runs_are_complete.Goals as goal

pub returns : goal.returns
returns c = complete
