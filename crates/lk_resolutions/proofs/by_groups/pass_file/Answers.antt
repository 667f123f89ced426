use Rattle.std.proofs.Common.{◌≡◌, ◌+◌, ℕ, List, Some, length, sym, ap, subst, ◌∙◌, arith}
use Rattle.std.specs.Prelude.{slice_get}
use Rattle.std.proofs.lemmas.Option.{slice_get-get_or}
use Rattle.lk_link.specs.declared.symbol.InputSymbol.{InputSymbol}
use Rattle.lk_link.specs.Symbols.{first_symbol}
use Rattle.lk_link.proofs.NumberedSymbolLemmas.{stands}
use Rattle.lk_reach.specs.Units.{numbered_symbols}
use Rattle.lk_resolutions.specs.AtHand.{setting_at_hand}
use Rattle.lk_resolutions.specs.Entries.{EntrySetting}
use Rattle.lk_resolutions.specs.EntryWords.{AreNextAt}
use Rattle.lk_resolutions.proofs.by_groups.pass_file.Goals as goal

pub take_own-taken-requires-clause-there : goal.take_own-taken-requires-clause-there
take_own-taken-requires-clause-there g c =
    let groups = c.args.tables.now.merged.link.now.groups in
    let file = c.args.file in
    let x : InputSymbol = c.index-symbols-index.result in
    let k : ℕ = c.loop-index.index in
    let at : slice_get file.file.now.symbols k ≡ Some x
    = ap (λ (xs : List InputSymbol). slice_get xs k) (sym c.as_slice-symbols.ensures) ∙ slice_get-get_or c.as_slice-symbols.result.now k x c.loop-index-test.true ∙ ap (λ (y : InputSymbol). Some y) (sym c.index-symbols-index.is) in
    ap (λ (n : ℕ). slice_get (numbered_symbols groups) (n + k)) c.first_symbol_of-first.ensures.exactly ∙ stands groups file.id file.file.now k x c.requires.there at

pub loop-index-init : goal.loop-index-init
loop-index-init g c =
    let by : EntrySetting = setting_at_hand (g.P.Platform.table_sizes c.args.platform.now) c.args.tables.now in
    let first : first_symbol c.args.tables.now.merged.link.now.groups c.args.file.id ≡ c.first_symbol_of-first.result + 0 = omega (arith, c.first_symbol_of-first.ensures.exactly) in
    record {
      next = subst (λ (n : ℕ). AreNextAt by n c.args.next.now) first c.requires.next;
      within = omega arith;
    }

pub loop-index-preserved : goal.loop-index-preserved
loop-index-preserved g c =
    let by : EntrySetting = setting_at_hand (g.P.Platform.table_sizes c.args.platform.now) c.args.tables.now in
    let first : ℕ = c.first_symbol_of-first.result in
    let k : ℕ = c.loop-index.index in
    let on : first + k + 1 ≡ first + (k + 1) = omega arith in
    record {
      next = subst (λ (n : ℕ). AreNextAt by n c.take_own-taken.new.next) on c.take_own-taken.ensures.moved;
      within = omega (arith, c.loop-index-test.true);
    }

pub returns : goal.returns
returns g c =
    let by : EntrySetting = setting_at_hand (g.P.Platform.table_sizes c.args.platform.now) c.args.tables.now in
    let all : c.first_symbol_of-first.result + c.loop-index.index ≡ first_symbol c.args.tables.now.merged.link.now.groups c.args.file.id + length c.args.file.file.now.symbols
    = omega (arith, c.loop-index-test.false, c.loop-index.invariant.within, c.first_symbol_of-first.ensures.exactly, ap (λ (xs : List InputSymbol). length xs) c.as_slice-symbols.ensures) in
    subst (λ (n : ℕ). AreNextAt by n c.loop-index.next) all c.loop-index.invariant.next
