use Rattle.std.proofs.Common.{sym, ◌∙◌}
use Rattle.std.specs.List.{slice_get}
use Rattle.lk_link.specs.NumberedSymbols.{symbol_of}
use Rattle.lk_reach.specs.Units.{numbered_symbols, symbol_asks}
use Rattle.lk_reach.proofs.Numbered.{are_numbered}
use Rattle.lk_reach.proofs.SymbolNumbers.{none_known, one_known}
use Rattle.lk_reach.proofs.reaching.symbol_asks.Goals as goal

pub symbol_in_file-requires : goal.symbol_in_file-requires
symbol_in_file-requires c = are_numbered c.args.link.now c.requires

pub returns-in-None : goal.returns-in-None
returns-in-None c =
    sym (none_known c.args.symbol (symbol_asks c.args.link.now.groups c.args.symbol) (slice_get (numbered_symbols c.args.link.now.groups) c.args.symbol) c.in-None.ensures)

pub returns-in-Some : goal.returns-in-Some
returns-in-Some c =
    c.kind_asks.ensures
    ∙ sym (one_known c.args.symbol (symbol_of c.in-Some.found) (symbol_asks c.args.link.now.groups c.args.symbol) (slice_get (numbered_symbols c.args.link.now.groups) c.args.symbol) c.in-Some.ensures)
