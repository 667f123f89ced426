use Rattle.std.proofs.Common.{arith}
use Rattle.lk_link.proofs.InputLemmas.{inputs_follow}
use Rattle.lk_reach.proofs.SymbolNumbers.{inputs_few}
use Rattle.lk_sizes.proofs.sorted.number_of.Goals as goal

pub input_start-requires : goal.input_start-requires
input_start-requires c = omega (arith, inputs_few c.args.link.now c.requires.good)

pub overflow_add-result : goal.overflow_add-result
overflow_add-result c =
    omega (arith, c.requires.there, c.in-Some.is, c.in-Some.ensures, inputs_follow.count c.args.link.now.groups, inputs_few c.args.link.now c.requires.good)
