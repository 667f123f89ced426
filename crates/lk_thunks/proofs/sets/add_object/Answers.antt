use Rattle.std.proofs.Common.{◌≡◌, sym, ap, length, arith, ◌∙◌}
use Rattle.lk_thunks.specs.Noting.{planning_of}
use Rattle.lk_thunks.proofs.Noting.{object_noted}
use Rattle.lk_link.specs.Symbols.{AreSymbolsOf, first_symbol}
use Rattle.lk_link.proofs.SymbolLemmas.{symbols_within}
use Rattle.lk_reach.proofs.SymbolNumbers.{symbols_few}
use Rattle.lk_thunks.proofs.sets.add_object.Goals as goal

pub symbol_id_range-requires : goal.symbol_id_range-requires
symbol_id_range-requires c = symbols_few c.args.by.now.link.now c.requires.good

pub add_symbols-requires-clause-numbers : goal.add_symbols-requires-clause-numbers
add_symbols-requires-clause-numbers c =
    let link = c.args.by.now.link.now in
    let range : AreSymbolsOf link.groups c.args.object.0 c.in-Some-symbol_id_range.numbers = c.in-Some-symbol_id_range.ensures in
    let first : c.as_u32-first.result ≡ first_symbol link.groups c.args.object.0 = c.as_u32-first.ensures ∙ c.start.ensures ∙ range.start in
    omega (arith, first, ap length c.as_slice.ensures, symbols_within link.groups c.args.object.0 c.in-Some.file.now (sym c.in-Some.ensures), symbols_few link c.requires.good)

pub returns-in_ok-add_symbols-clause-noted : goal.returns-in_ok-add_symbols-clause-noted
returns-in_ok-add_symbols-clause-noted c = λ test given.
    let link = c.args.by.now.link.now in
    let range : AreSymbolsOf link.groups c.args.object.0 c.in-Some-symbol_id_range.numbers = c.in-Some-symbol_id_range.ensures in
    object_noted (planning_of c.args.by.now) c.args.object c.in-Some.file.now c.as_u32-first.result c.as_slice.result.now test c.args.stamp c.add_symbols.new.stamps c.add_symbols.new.set.items
    c.in-Some.ensures (c.as_u32-first.ensures ∙ c.start.ensures ∙ range.start) c.as_slice.ensures (c.in_ok-add_symbols.ensures.noted test given)
