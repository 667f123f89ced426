use Rattle.std.proofs.Common.{arith}
use Rattle.lk_reach.proofs.SymbolNumbers.{first_within, inputs_few}
use Rattle.lk_relax.proofs.positions.first_number.Goals as goal

pub input_start-requires : goal.input_start-requires
input_start-requires c = omega (arith, inputs_few c.args.link.now c.requires.good)

pub returns-in-Some-clause-few : goal.returns-in-Some-clause-few
returns-in-Some-clause-few c =
    let link = c.args.link.now in
    omega (arith, c.in-Some.ensures.1, first_within link.groups c.args.file, inputs_few link c.requires.good)
