use Rattle.std.proofs.Common.{Option, option_and_then, sym, ap, ◌∙◌}
use Rattle.std.specs.List.{slice_get}
use Rattle.lk_link.specs.declared.symbol.InputSymbol.{InputSymbol}
use Rattle.lk_link.specs.Inputs.{NumberedFile}
use Rattle.lk_link.specs.NumberedSymbols.{symbol_of}
use Rattle.lk_reach.specs.declared.units.Ask.{Ask}
use Rattle.lk_reach.specs.Units.{definition_ask, numbered_symbols}
use Rattle.lk_reach.proofs.Numbered.{are_numbered}
use Rattle.lk_reach.proofs.SymbolNumbers.{at_known, none_found}
use Rattle.lk_reach.proofs.reaching.asked_definition.Goals as goal

pub symbol_in_file-requires : goal.symbol_in_file-requires
symbol_in_file-requires c = are_numbered c.args.link.now c.requires

pub returns-in-None : goal.returns-in-None
returns-in-None c =
    let link = c.args.link.now in
    let by : NumberedFile × InputSymbol → Option Ask = λ q. definition_ask link c.args.definition (q.0.file, q.1) q.0.file.kind in
    sym (none_found c.args.definition by (slice_get (numbered_symbols link.groups) c.args.definition) c.in-None.ensures)

pub returns-in-Some : goal.returns-in-Some
returns-in-Some c =
    let link = c.args.link.now in
    let by : NumberedFile × InputSymbol → Option Ask = λ q. definition_ask link c.args.definition (q.0.file, q.1) q.0.file.kind in
    c.definition_ask.ensures
    ∙ sym (ap (option_and_then by) (at_known c.args.definition (symbol_of c.in-Some.found) (slice_get (numbered_symbols link.groups) c.args.definition) c.in-Some.ensures))
