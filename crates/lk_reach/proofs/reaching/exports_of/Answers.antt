use Rattle.std.proofs.Common.{◌≡◌, length, ap, ◌∙◌, arith}
use Rattle.std.proofs.lemmas.Option.{MatchOption-at_some}
use Rattle.lk_link.specs.Symbols.{AreSymbolsOf, first_symbol}
use Rattle.lk_link.proofs.SymbolLemmas.{symbols_within}
use Rattle.lk_reach.proofs.SymbolNumbers.{symbols_few}
use Rattle.lk_reach.proofs.reaching.exports_of.Goals as goal

pub symbol_id_range-requires : goal.symbol_id_range-requires
symbol_id_range-requires c = symbols_few c.args.link.now c.requires.well_formed

pub invariant_of-result : goal.invariant_of-result
invariant_of-result c =
    let range : AreSymbolsOf c.args.link.now.groups c.args.file.id c.in_ok-symbols.symbols = MatchOption-at_some _ _ c.in_ok-symbols.symbols c.in_ok-symbols.was c.symbol_id_range.ensures in
    let first : c.as_u32.result ≡ first_symbol c.args.link.now.groups c.args.file.id = c.as_u32.ensures ∙ c.start.ensures ∙ range.start in
    omega (
      arith,
      first,
      symbols_within c.args.link.now.groups c.args.file.id c.args.file.file.now c.requires.there,
      symbols_few c.args.link.now c.requires.well_formed,
      ap length c.as_slice-2.ensures,
    )
