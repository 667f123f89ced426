use Rattle.std.proofs.Common.{◌≡◌, true, Some, sym, ◌∙◌}
use Rattle.std.specs.List.{slice_get}
use Rattle.std.proofs.lemmas.Option.{MatchOption-at_some}
use Rattle.lk_link.specs.Files.{file_in}
use Rattle.lk_link.specs.InputSlots.{is_regular}
use Rattle.lk_link.specs.Symbols.{AreSymbolsOf, first_symbol}
use Rattle.lk_reach.proofs.SymbolNumbers.{relocations_from, symbols_few}
use Rattle.lk_reach.proofs.reaching.section_relocations.Goals as goal

pub symbol_id_range-requires : goal.symbol_id_range-requires
symbol_id_range-requires c = symbols_few c.args.link.now c.requires

pub invariant_of-result : goal.invariant_of-result
invariant_of-result c =
    let there : file_in c.args.link.now.groups c.args.id ≡ Some c.in_ok-file.file.now = sym c.in_ok-file.ensures in
    let section : slice_get c.in_ok-file.file.now.sections c.args.index ≡ Some c.in_ok-section.section.now = sym c.in_ok-section.ensures in
    let regular : is_regular c.in_ok-section.section.now.slot ≡ true = sym c.is_followed.ensures ∙ c.if-not-is_followed.false in
    let range : AreSymbolsOf c.args.link.now.groups c.args.id c.in_ok-symbols.symbols = MatchOption-at_some _ _ c.in_ok-symbols.symbols c.in_ok-symbols.was c.symbol_id_range.ensures in
    let first : c.as_u32.result ≡ first_symbol c.args.link.now.groups c.args.id = c.as_u32.ensures ∙ c.start.ensures ∙ range.start in
    relocations_from c.args.link.now c.args.id c.in_ok-file.file.now c.args.index c.in_ok-section.section.now c.as_u32.result c.as_slice.result.now c.requires there section regular first
    c.as_slice.ensures
