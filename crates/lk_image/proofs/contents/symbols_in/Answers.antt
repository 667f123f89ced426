use Rattle.lk_reach.proofs.SymbolNumbers.{symbols_few}
use Rattle.lk_image.proofs.contents.symbols_in.Goals as goal

pub symbol_id_range-requires : goal.symbol_id_range-requires
symbol_id_range-requires c = symbols_few c.args.link.now c.requires.good
