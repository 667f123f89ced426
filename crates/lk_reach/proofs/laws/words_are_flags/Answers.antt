use Rattle.lk_reach.proofs.ReachLemmas.{words_are_flags}
use Rattle.lk_reach.proofs.laws.words_are_flags.Goals as goal

pub returns : goal.returns
returns c = words_are_flags
