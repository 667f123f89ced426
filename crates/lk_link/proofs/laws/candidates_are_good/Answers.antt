use Rattle.lk_link.proofs.GoodFiles.{candidate_of}
use Rattle.lk_link.proofs.laws.candidates_are_good.Goals as goal

pub returns : goal.returns
returns c = candidate_of
