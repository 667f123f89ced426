use Rattle.lk_layout.proofs.OneAnswer.{answer_exists}
use Rattle.lk_layout.proofs.laws.defined_answer_exists.Goals as goal

pub returns : goal.returns
returns c = answer_exists c.well_formed_exactly_unfaulted.ensures c.live_exists.ensures c.relaxed_exists.ensures
