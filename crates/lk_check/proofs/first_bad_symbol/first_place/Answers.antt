use Rattle.std.proofs.Common.{sym}
use Rattle.lk_link.specs.SymbolRules.{is_good_symbol}
use Rattle.lk_check.proofs.NumberedFiles.{found_there}
use Rattle.lk_check.proofs.first_bad_symbol.first_place.Goals as goal

pub symbol_number-requires-clause-there : goal.symbol_number-requires-clause-there
symbol_number-requires-clause-there c = found_there (is_good_symbol c.args.link.now) c.args.link.now.groups _ (sym c.in-Some.ensures)
