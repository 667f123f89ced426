use Rattle.lk_run.proofs.Completeness.{check_complete}
use Rattle.lk_run.proofs.laws.check_runs_are_complete.Goals as goal

pub returns : goal.returns
returns c = check_complete c.texts_are_read.ensures c.verdicts_tell_good.ensures
