use Rattle.lk_thunk_plan.proofs.ThunkRanges.{thunks_have_ranges}
use Rattle.lk_thunk_plan.proofs.laws.thunks_have_ranges.Goals as goal

pub returns : goal.returns
returns c = thunks_have_ranges
