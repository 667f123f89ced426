use Rattle.lk_run.proofs.Completeness.{why_complete}
use Rattle.lk_run.proofs.laws.why_runs_are_complete.Goals as goal

pub returns : goal.returns
returns c = why_complete
