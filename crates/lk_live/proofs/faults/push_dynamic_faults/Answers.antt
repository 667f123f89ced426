use Rattle.std.proofs.Common.{◌≡◌, length, ap, ◌∙◌, arith}
use Rattle.std.proofs.lemmas.Option.{MatchOption-at_some}
use Rattle.lk_link.specs.Symbols.{AreSymbolsOf, first_symbol}
use Rattle.lk_link.proofs.SymbolLemmas.{symbols_within}
use Rattle.lk_reach.proofs.SymbolNumbers.{symbols_few}
use Rattle.lk_live.proofs.faults.push_dynamic_faults.Goals as goal

pub symbol_id_range-requires : goal.symbol_id_range-requires
symbol_id_range-requires c = symbols_few c.args.link.now c.requires.well_formed

pub push_symbol_faults-requires : goal.push_symbol_faults-requires
push_symbol_faults-requires c =
    let range : AreSymbolsOf c.args.link.now.groups c.args.file.id c.in-Some.symbols = MatchOption-at_some _ _ c.in-Some.symbols c.in-Some.is c.symbol_id_range.ensures in
    let first : c.as_u32-first.result ≡ first_symbol c.args.link.now.groups c.args.file.id = c.as_u32-first.ensures ∙ c.start.ensures ∙ range.start in
    omega (
      arith,
      first,
      symbols_within c.args.link.now.groups c.args.file.id c.args.file.file.now c.requires.there,
      symbols_few c.args.link.now c.requires.well_formed,
      ap length c.as_slice.ensures,
    )
