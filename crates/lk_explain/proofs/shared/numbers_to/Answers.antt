use Rattle.lk_explain.proofs.SharedLemmas.{none_marked_below}
use Rattle.lk_explain.proofs.shared.numbers_to.Goals as goal

pub returns : goal.returns
returns c = none_marked_below c.args.count c.loop-number.numbers.items c.requires c.loop-number.invariant
