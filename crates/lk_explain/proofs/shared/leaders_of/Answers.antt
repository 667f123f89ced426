use Rattle.std.proofs.Common.{arith}
use Rattle.lk_reach.proofs.Numbered.{are_numbered}
use Rattle.lk_reach.proofs.SymbolNumbers.{symbols_few}
use Rattle.lk_explain.proofs.shared.leaders_of.Goals as goal

pub numbers_to-requires : goal.numbers_to-requires
numbers_to-requires c = omega (arith, symbols_few c.args.link.now c.requires)

pub files-file-items-requires : goal.files-file-items-requires
files-file-items-requires c = are_numbered c.args.link.now c.requires

pub symbol_id_range-requires : goal.symbol_id_range-requires
symbol_id_range-requires c = symbols_few c.args.link.now c.requires
