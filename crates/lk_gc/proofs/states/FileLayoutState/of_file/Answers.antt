use Rattle.std.proofs.Common.{sym, ap, ◌∙◌}
use Rattle.std.specs.Option.{option_copied}
use Rattle.std.proofs.lemmas.Option.{MatchOption-at_some}
use Rattle.lk_reach.proofs.SymbolNumbers.{symbols_few}
use Rattle.lk_gc.proofs.states.FileLayoutState.of_file.Goals as goal

pub symbol_id_range-requires : goal.symbol_id_range-requires
symbol_id_range-requires c = symbols_few c.args.link.now c.requires

pub returns : goal.returns
returns c = record {
  file = c.in_ok-file.file.now;
  there = sym c.file.ensures ∙ ap option_copied c.in_ok-file.was;
  range = c.in_ok-symbol_id_range.symbol_id_range;
  symbols = MatchOption-at_some _ _ c.in_ok-symbol_id_range.symbol_id_range c.in_ok-symbol_id_range.was c.symbol_id_range.ensures;
  state = c.state_of.ensures;
}
