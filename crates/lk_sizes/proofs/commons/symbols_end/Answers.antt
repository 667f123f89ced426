use Rattle.std.proofs.Common.{◌≡◌, Some, length, sym, ap, ◌∙◌, arith}
use Rattle.lk_link.specs.declared.file.InputFile.{InputFile}
use Rattle.lk_link.specs.Symbols.{AreSymbolsOf}
use Rattle.lk_reach.proofs.SymbolNumbers.{symbols_few}
use Rattle.lk_sizes.proofs.commons.symbols_end.Goals as goal

pub symbol_id_range-requires : goal.symbol_id_range-requires
symbol_id_range-requires c = symbols_few c.args.link.now c.requires.good

pub overflow_add-result : goal.overflow_add-result
overflow_add-result c =
    let link = c.args.link.now in
    let range : AreSymbolsOf link.groups c.args.file.id c.in-Some.numbers = c.in-Some.ensures in
    omega (arith, range.within, symbols_few link c.requires.good)

pub returns-in-Some : goal.returns-in-Some
returns-in-Some c =
    let link = c.args.link.now in
    let range : AreSymbolsOf link.groups c.args.file.id c.in-Some.numbers = c.in-Some.ensures in
    let files : Some range.file ≡ Some c.args.file.file.now = sym range.there ∙ c.requires.there in
    let file : range.file ≡ c.args.file.file.now = cc in
    omega (arith, range.start, range.count, ap (λ (f : InputFile). length f.symbols) file)
