use Rattle.std.proofs.Common.{◌≡◌, true, length, ap, sym, ◌∙◌, arith}
use Rattle.std.proofs.lemmas.Option.{MatchOption-at_some}
use Rattle.lk_link.specs.InputSlots.{is_regular}
use Rattle.lk_link.specs.Symbols.{AreSymbolsOf, first_symbol}
use Rattle.lk_link.proofs.GoodInputs.{lists_of}
use Rattle.lk_reach.proofs.SymbolNumbers.{relocations_from, symbols_few}
use Rattle.lk_live.proofs.faults.push_section_faults.Goals as goal

pub symbol_id_range-requires : goal.symbol_id_range-requires
symbol_id_range-requires c = symbols_few c.args.link.now c.requires.well_formed

pub push_relocation_faults-requires-clause-numbers : goal.push_relocation_faults-requires-clause-numbers
push_relocation_faults-requires-clause-numbers c =
    let range : AreSymbolsOf c.args.link.now.groups c.args.file.id c.in-Some.symbols = MatchOption-at_some _ _ c.in-Some.symbols c.in-Some.is c.symbol_id_range.ensures in
    let first : c.as_u32-first.result ≡ first_symbol c.args.link.now.groups c.args.file.id = c.as_u32-first.ensures ∙ c.start.ensures ∙ range.start in
    let regular : is_regular c.args.section.now.slot ≡ true = sym c.is_regular.ensures ∙ c.if-is_regular.true in
    relocations_from c.args.link.now c.args.file.id c.args.file.file.now c.args.index c.args.section.now c.as_u32-first.result c.as_slice.result.now c.requires.well_formed c.requires.there
    c.requires.section regular first c.as_slice.ensures

pub push_relocation_faults-requires-clause-few : goal.push_relocation_faults-requires-clause-few
push_relocation_faults-requires-clause-few c =
    let few = lists_of c.args.link.now c.args.file.id c.args.index c.args.file.file.now c.args.section.now c.requires.well_formed c.requires.there c.requires.section in
    omega (arith, few.0, ap length c.as_slice.ensures)
