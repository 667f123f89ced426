use Rattle.std.proofs.Common.{arith}
use Rattle.lk_reach.proofs.SymbolNumbers.{first_within, inputs_few, symbols_few}
use Rattle.lk_reach.proofs.walk.section_number.Goals as goal

pub input_start-requires : goal.input_start-requires
input_start-requires c = omega (arith, inputs_few c.args.link.now c.requires)

pub overflow_add-result : goal.overflow_add-result
overflow_add-result c =
    let start = c.in_ok-start.ensures in
    omega (arith, start.1, first_within c.args.link.now.groups c.args.file, inputs_few c.args.link.now c.requires, symbols_few c.args.link.now c.requires)

pub overflow_add-result-2 : goal.overflow_add-result-2
overflow_add-result-2 c =
    let start = c.in_ok-start.ensures in
    omega (arith, start.1, first_within c.args.link.now.groups c.args.file, inputs_few c.args.link.now c.requires, symbols_few c.args.link.now c.requires)

pub returns : goal.returns
returns c =
    let start = c.in_ok-start.ensures in
    (start.0, omega (arith, start.1, symbols_few c.args.link.now c.requires))
