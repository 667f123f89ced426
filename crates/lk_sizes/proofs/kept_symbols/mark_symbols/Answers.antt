use Rattle.std.proofs.Common.{◌≡◌, ◌||◌, ◌==◌, ◌+◌, ℕ, Bool, List, Option, false, length, ap, ◌∙◌, rules}
use Rattle.std.specs.List.{enumerate_from, list_any}
use Rattle.std.specs.Option.{option_map_or}
use Rattle.std.proofs.lemmas.List.{take_all}
use Rattle.lk_link.specs.declared.symbol.InputSymbol.{InputSymbol}
use Rattle.lk_link.specs.Marks.{is_marked}
use Rattle.lk_sizes.specs.Emitted.{keeps, section_kept_by}
use Rattle.lk_sizes.proofs.SymbolsKeep.{none_marked, symbol_marked}
use Rattle.lk_sizes.proofs.kept_symbols.mark_symbols.Goals as goal

pub loop-index-init : goal.loop-index-init
loop-index-init c = none_marked (keeps c.args.live.now c.args.kind) c.args.marks.now

pub loop-index-preserved : goal.loop-index-preserved
loop-index-preserved c =
    let live = c.args.live.now in
    let kind = c.args.kind in
    let first : ℕ = c.args.first in
    let i : ℕ = c.loop-index.index in
    let x : InputSymbol = c.index-symbols-index.result in
    let middle : List Bool = c.loop-index.marks in
    let new : List Bool = c.mark_section.new.marks in
    let count : length new ≡ length middle = search rules in
    let section : c.section_kept_by-section.result ≡ section_kept_by live kind (first + i, x)
    = c.section_kept_by-section.ensures ∙ ap (λ (n : ℕ). section_kept_by live kind (n, x)) c.from_u32-number.ensures in
    symbol_marked live kind first i c.args.symbols.now x x c.args.marks.now middle new c.loop-index-test.true c.index-symbols-index.is c.loop-index.invariant count
    (λ s below. c.mark_section.ensures s below ∙ ap (λ (o : Option ℕ). is_marked middle s || option_map_or (λ n. n == s) o false) section)

pub returns : goal.returns
returns c = λ s below.
    c.loop-index.invariant.each s below
    ∙ ap (λ (xs : List InputSymbol). is_marked c.args.marks.now s || list_any (keeps c.args.live.now c.args.kind s) (enumerate_from c.args.first xs))
    (take_all c.loop-index.index c.args.symbols.now c.loop-index-test.false)
