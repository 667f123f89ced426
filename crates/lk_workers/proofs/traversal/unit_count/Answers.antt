use Rattle.std.proofs.Common.{arith}
use Rattle.lk_link.proofs.InputLemmas.{inputs_follow}
use Rattle.lk_reach.proofs.SymbolNumbers.{units_few}
use Rattle.lk_reach.proofs.UnitLemmas.{units_count}
use Rattle.lk_workers.proofs.traversal.unit_count.Goals as goal

pub overflow_add-result : goal.overflow_add-result
overflow_add-result c =
    omega (arith, units_few c.args.link.now c.requires, units_count c.args.link.now.groups, inputs_follow.count c.args.link.now.groups, c.symbol_count.ensures, c.input_count.ensures)

pub returns : goal.returns
returns c =
    omega (arith, units_few c.args.link.now c.requires, units_count c.args.link.now.groups, inputs_follow.count c.args.link.now.groups, c.symbol_count.ensures, c.input_count.ensures)
