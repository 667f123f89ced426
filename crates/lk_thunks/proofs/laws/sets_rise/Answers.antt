use Rattle.std.proofs.Common.{length}
use Rattle.lk_link.specs.Symbols.{all_symbols}
use Rattle.lk_thunks.specs.ThunkSets.{has_thunk}
use Rattle.lk_thunks.proofs.Rising.{passed_rise}
use Rattle.lk_thunks.proofs.laws.sets_rise.Goals as goal

pub returns : goal.returns
returns c = λ by k objects i j lt within. passed_rise (has_thunk by k objects) (length (all_symbols by.link.groups)) 0 i j lt within
