use Rattle.lk_layout.proofs.OneAnswer.{answer_one}
use Rattle.lk_layout.proofs.laws.defined_answer_is_one.Goals as goal

pub returns : goal.returns
returns c = answer_one c.well_formed_exactly_unfaulted.ensures c.live_is_one.ensures c.relaxed_is_one.ensures
