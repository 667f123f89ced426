use Rattle.std.proofs.Common.{◌≡◌, true, sym, ◌∙◌}
use Rattle.std.proofs.lemmas.Option.{MatchOption-at_some}
use Rattle.lk_link.specs.InputSlots.{is_regular}
use Rattle.lk_link.specs.Symbols.{AreSymbolsOf, first_symbol}
use Rattle.lk_reach.proofs.SymbolNumbers.{relocations_from, symbols_few}
use Rattle.lk_live.proofs.primary.mark_named.Goals as goal

pub symbol_id_range-requires : goal.symbol_id_range-requires
symbol_id_range-requires c = symbols_few c.args.link.now c.requires.well_formed

pub mark_relocations-requires : goal.mark_relocations-requires
mark_relocations-requires c =
    let link = c.args.link.now in
    let there = c.requires.there in
    let range : AreSymbolsOf link.groups c.args.input.file c.in-Some-symbol_id_range.symbols = MatchOption-at_some _ _ c.in-Some-symbol_id_range.symbols c.in-Some-symbol_id_range.is c.symbol_id_range.ensures in
    let first : c.as_u32-first.result ≡ first_symbol link.groups c.args.input.file = c.as_u32-first.ensures ∙ c.start.ensures ∙ range.start in
    let regular : is_regular c.args.input.section.now.slot ≡ true = sym c.is_regular.ensures ∙ c.if-is_regular.true in
    relocations_from link c.args.input.file there.file c.args.input.index c.args.input.section.now c.as_u32-first.result c.as_slice-relocs.result.now c.requires.well_formed there.there there.section
    regular first c.as_slice-relocs.ensures
