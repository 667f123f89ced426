use Rattle.lk_run.proofs.Completeness.{image_complete}
use Rattle.lk_run.proofs.laws.image_runs_are_complete.Goals as goal

pub returns : goal.returns
returns c = image_complete
