use Rattle.lk_reach.proofs.ClosedWords.{closed_words_hold_flags}
use Rattle.lk_reach.proofs.laws.closed_words_hold_flags.Goals as goal

pub returns : goal.returns
returns c = closed_words_hold_flags
