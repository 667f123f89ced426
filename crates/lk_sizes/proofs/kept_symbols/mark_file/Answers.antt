use Rattle.std.proofs.Common.{◌≡◌, ◌||◌, false, length, ap, sym, ◌∙◌, arith}
use Rattle.std.proofs.Math.Bool.{or-false}
use Rattle.lk_link.specs.FileKinds.{is_prelude}
use Rattle.lk_link.specs.Marks.{is_marked}
use Rattle.lk_link.specs.Symbols.{AreSymbolsOf, first_symbol}
use Rattle.lk_link.specs.Walks.{file_of}
use Rattle.lk_link.proofs.SymbolLemmas.{symbols_within}
use Rattle.lk_reach.proofs.SymbolNumbers.{symbols_few}
use Rattle.lk_tables.specs.SymbolTable.{symbols_by_number}
use Rattle.lk_sizes.proofs.SymbolsKeep.{others_keep_nothing}
use Rattle.lk_sizes.proofs.kept_symbols.mark_file.Goals as goal

pub symbol_id_range-requires : goal.symbol_id_range-requires
symbol_id_range-requires c = symbols_few c.args.link.now c.requires.good

pub mark_symbols-requires : goal.mark_symbols-requires
mark_symbols-requires c =
    let link = c.args.link.now in
    let range : AreSymbolsOf link.groups c.args.file.id c.in-Some.numbers = c.in-Some.ensures in
    let first : c.as_u32-first.result ≡ first_symbol link.groups c.args.file.id = c.as_u32-first.ensures ∙ c.start.ensures ∙ range.start in
    omega (arith, first, ap length c.as_slice.ensures, symbols_within link.groups c.args.file.id c.args.file.file.now c.requires.there, symbols_few link c.requires.good)

pub returns-then-not-is_prelude : goal.returns-then-not-is_prelude
returns-then-not-is_prelude c = λ s below.
    let f = file_of c.args.file in
    let other : is_prelude f.file.kind ≡ false = sym c.is_prelude.ensures ∙ c.if-not-is_prelude.true in
    let none = others_keep_nothing c.args.live.now f.file.kind s (symbols_by_number c.args.link.now f) other in
    sym (ap (λ b. is_marked c.args.marks.now s || b) none ∙ or-false (is_marked c.args.marks.now s))
