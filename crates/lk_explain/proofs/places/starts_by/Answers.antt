use Rattle.std.proofs.Common.{arith}
use Rattle.lk_reach.proofs.SymbolNumbers.{inputs_few}
use Rattle.lk_explain.proofs.places.starts_by.Goals as goal

pub input_start-requires : goal.input_start-requires
input_start-requires c = omega (arith, inputs_few c.args.link.now c.requires)
