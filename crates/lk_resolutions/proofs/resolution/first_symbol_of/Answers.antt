use Rattle.std.proofs.Common.{◌≡◌, ◌∙◌, arith}
use Rattle.lk_link.specs.Symbols.{AreSymbolsOf, first_symbol}
use Rattle.lk_link.proofs.SymbolLemmas.{symbols_within}
use Rattle.lk_reach.proofs.SymbolNumbers.{symbols_few}
use Rattle.lk_resolutions.proofs.resolution.first_symbol_of.Goals as goal

pub symbol_id_range-requires : goal.symbol_id_range-requires
symbol_id_range-requires c = symbols_few c.args.link.now c.requires.good

pub returns-in-Some : goal.returns-in-Some
returns-in-Some c =
    let link = c.args.link.now in
    let range : AreSymbolsOf link.groups c.args.file.id c.in-Some.numbers = c.in-Some.ensures in
    let first : c.as_u32.result ≡ first_symbol link.groups c.args.file.id = c.as_u32.ensures ∙ c.start.ensures ∙ range.start in
    record {
      exactly = first;
      few = omega (arith, first, symbols_within link.groups c.args.file.id c.args.file.file.now c.requires.there, symbols_few link c.requires.good);
    }
