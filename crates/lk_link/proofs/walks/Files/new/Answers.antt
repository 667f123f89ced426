use Rattle.lk_link.proofs.InputLemmas.{few_at_first}
use Rattle.lk_link.proofs.walks.Files.new.Goals as goal

pub invariant_of-t-5 : goal.invariant_of-t-5
invariant_of-t-5 c =
    few_at_first c.args.groups.now c.in-Some.others.now c.as_slice.result.now
    (rw c.as_slice.ensures c.in-Some.ensures.cases.0)
    c.requires
