use Rattle.std.proofs.Common.{◌≡◌, length, ap, ◌∙◌, arith}
use Rattle.lk_link.specs.Symbols.{AreSymbolsOf, first_symbol}
use Rattle.lk_link.proofs.SymbolLemmas.{symbols_within}
use Rattle.lk_reach.proofs.SymbolNumbers.{symbols_few}
use Rattle.lk_tables.proofs.shares.take_file.Goals as goal

pub symbol_id_range-requires : goal.symbol_id_range-requires
symbol_id_range-requires g c = symbols_few c.args.given.link.now c.requires.good

pub take_symbols-requires-clause-numbers : goal.take_symbols-requires-clause-numbers
take_symbols-requires-clause-numbers g c =
    let link = c.args.given.link.now in
    let range : AreSymbolsOf link.groups c.args.file.id c.in-Some.numbers = c.in-Some.ensures in
    let first : c.as_u32-first.result ≡ first_symbol link.groups c.args.file.id = c.as_u32-first.ensures ∙ c.start.ensures ∙ range.start in
    omega (arith, first, ap length c.as_slice-symbols.ensures, symbols_within link.groups c.args.file.id c.args.file.file.now c.requires.there, symbols_few link c.requires.good)
