use Rattle.lk_answers.proofs.Ending.{ends_below}
use Rattle.lk_answers.proofs.query_laws.thread_local_data_ends_below.Goals as goal

pub returns : goal.returns
returns c = ends_below c.segments_end_below.ensures
