use Rattle.std.proofs.Common.{◌≡◌, ℕ, length, map, ap, ◌∙◌, arith}
use Rattle.std.specs.List.{enumerate_from}
use Rattle.lk_link.specs.Symbols.{AreSymbolsOf, first_symbol}
use Rattle.lk_link.specs.Walks.{file_of}
use Rattle.lk_link.proofs.SymbolLemmas.{symbols_within}
use Rattle.lk_reach.proofs.SymbolNumbers.{symbols_few}
use Rattle.lk_tables.specs.ShareSteps.{sum_of, symbol_share}
use Rattle.lk_tables.specs.SymbolTable.{symbols_by_number}
use Rattle.lk_tables.proofs.shares.file_share.Goals as goal

pub symbol_id_range-requires : goal.symbol_id_range-requires
symbol_id_range-requires g c = symbols_few c.args.given.link.now c.requires.good

pub symbols_share-requires-clause-numbers : goal.symbols_share-requires-clause-numbers
symbols_share-requires-clause-numbers g c =
    let link = c.args.given.link.now in
    let range : AreSymbolsOf link.groups c.args.file.id c.in-Some.numbers = c.in-Some.ensures in
    let first : c.as_u32-first.result ≡ first_symbol link.groups c.args.file.id = c.as_u32-first.ensures ∙ c.start.ensures ∙ range.start in
    omega (arith, first, ap length c.as_slice-symbols.ensures, symbols_within link.groups c.args.file.id c.args.file.file.now c.requires.there, symbols_few link c.requires.good)

pub returns-in-Some : goal.returns-in-Some
returns-in-Some g c =
    let link = c.args.given.link.now in
    let range : AreSymbolsOf link.groups c.args.file.id c.in-Some.numbers = c.in-Some.ensures in
    let first : c.as_u32-first.result ≡ first_symbol link.groups c.args.file.id = c.as_u32-first.ensures ∙ c.start.ensures ∙ range.start in
    let each = symbol_share (g.P.Platform.table_sizes c.args.platform.now) link c.args.given.live.now c.args.given.told.now (file_of c.args.file) in
    let same : enumerate_from c.as_u32-first.result c.as_slice-symbols.result.now ≡ symbols_by_number link (file_of c.args.file)
    = ap (λ (n : ℕ). enumerate_from n c.as_slice-symbols.result.now) first ∙ ap (enumerate_from (first_symbol link.groups c.args.file.id)) c.as_slice-symbols.ensures in
    c.symbols_share.ensures ∙ ap (λ xs. sum_of (map each xs)) same
