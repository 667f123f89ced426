use Rattle.std.proofs.Common.{arith}
use Rattle.lk_reach.proofs.SymbolNumbers.{first_within, inputs_few}
use Rattle.lk_resolutions.proofs.resolution.first_input_of.Goals as goal

pub input_start-requires : goal.input_start-requires
input_start-requires c = omega (arith, inputs_few c.args.link.now c.requires.good)

pub returns-in-Some-clause-few : goal.returns-in-Some-clause-few
returns-in-Some-clause-few c = omega (arith, c.in-Some.ensures.1, first_within c.args.link.now.groups c.args.file.id, inputs_few c.args.link.now c.requires.good)
