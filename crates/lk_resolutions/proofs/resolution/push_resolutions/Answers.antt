use Rattle.std.proofs.Common.{◌≡◌, ◌++◌, ◌∷◌, [], ◌+◌, ◌<◌, ℕ, List, Option, Some, get_or, length, sym, ap, subst, ◌∙◌, arith}
use Rattle.std.specs.Prelude.{slice_get}
use Rattle.std.proofs.lemmas.List.{append-nil}
use Rattle.std.proofs.lemmas.Option.{slice_get-get_or}
use Rattle.lk_link.specs.declared.resolution.Resolution.{Resolution}
use Rattle.lk_link.specs.declared.symbol.InputSymbol.{InputSymbol}
use Rattle.lk_link.proofs.NumberedSymbolLemmas.{stands}
use Rattle.lk_reach.specs.Units.{numbered_symbols}
use Rattle.lk_resolutions.specs.AtHand.{StandsAtHand, places_at_hand, setting_at_hand}
use Rattle.lk_resolutions.specs.Entries.{EntrySetting}
use Rattle.lk_resolutions.specs.EntryWords.{AreNextAt}
use Rattle.lk_resolutions.specs.Resolutions.{resolution_of}
use Rattle.lk_resolutions.proofs.Pushing.{made_more}
use Rattle.lk_resolutions.proofs.resolution.push_resolutions.Goals as goal

pub resolve-resolution-requires-clause-there : goal.resolve-resolution-requires-clause-there
resolve-resolution-requires-clause-there g c =
    let groups = c.args.tables.now.merged.link.now.groups in
    let file = c.args.at_hand.now.file in
    let x : InputSymbol = c.index-symbols-index.result in
    let k : ℕ = c.loop-index.index in
    let at : slice_get file.file.now.symbols k ≡ Some x
    = ap (λ (xs : List InputSymbol). slice_get xs k) (sym c.as_slice-symbols.ensures) ∙ slice_get-get_or c.as_slice-symbols.result.now k x c.loop-index-test.true ∙ ap (λ (y : InputSymbol). Some y) (sym c.index-symbols-index.is) in
    ap (λ (n : ℕ). slice_get (numbered_symbols groups) (n + k)) c.requires.file.symbol ∙ stands groups file.id file.file.now k x c.requires.file.there at

pub resolve-resolution-requires-clause-stands : goal.resolve-resolution-requires-clause-stands
resolve-resolution-requires-clause-stands g c =
    let k : ℕ = c.loop-index.index in
    let x : InputSymbol = c.index-symbols-index.result in
    let file = c.args.at_hand.now.file in
    let below : k < length file.file.now.symbols = omega (arith, ap (λ (xs : List InputSymbol). length xs) c.as_slice-symbols.ensures, c.loop-index-test.true) in
    let read = ap (λ (xs : List InputSymbol). get_or xs k x) c.as_slice-symbols.ensures in
    let inside = c.requires.tables.inside file.id file.file.now c.requires.file.there k x below in
    subst (λ (y : InputSymbol). StandsAtHand c.args.tables.now c.args.at_hand.now y.at) (sym (c.index-symbols-index.is ∙ read)) inside

pub loop-index-init : goal.loop-index-init
loop-index-init g c =
    let by : EntrySetting = setting_at_hand (g.P.Platform.table_sizes c.args.platform.now) c.args.tables.now in
    let none : c.args.at_hand.now.first_symbol ≡ c.args.at_hand.now.first_symbol + 0 = omega arith in
    record {
      pushed = sym (append-nil c.args.resolutions.now);
      next = subst (λ (n : ℕ). AreNextAt by n c.args.next.now) none c.requires.next;
      within = omega arith;
    }

pub loop-index-preserved : goal.loop-index-preserved
loop-index-preserved g c =
    let by : EntrySetting = setting_at_hand (g.P.Platform.table_sizes c.args.platform.now) c.args.tables.now in
    let file = c.args.at_hand.now.file in
    let first : ℕ = c.args.at_hand.now.first_symbol in
    let one : ℕ × InputSymbol → Option Resolution = resolution_of (places_at_hand c.args.tables.now) by file.file.now.kind c.args.at_hand.now.first_input in
    let x : InputSymbol = c.index-symbols-index.result in
    let k : ℕ = c.loop-index.index in
    let old : List (Option Resolution) = c.loop-index.resolutions in
    let on : first + k + 1 ≡ first + (k + 1) = omega arith in
    record {
      pushed = made_more one first k c.as_slice-symbols.result.now x x c.args.resolutions.now old c.push.new.self c.loop-index-test.true c.index-symbols-index.is c.loop-index.invariant.pushed
          (c.in_ok-push.ensures ∙ ap (λ (r : Option Resolution). old ++ r ∷ []) c.resolve-resolution.ensures.value);
      next = subst (λ (n : ℕ). AreNextAt by n c.resolve-resolution.new.next) on c.resolve-resolution.ensures.moved;
      within = omega (arith, c.loop-index-test.true);
    }

pub returns-clause-moved : goal.returns-clause-moved
returns-clause-moved g c =
    let by : EntrySetting = setting_at_hand (g.P.Platform.table_sizes c.args.platform.now) c.args.tables.now in
    let first : ℕ = c.args.at_hand.now.first_symbol in
    let all : first + c.loop-index.index ≡ first + length c.args.at_hand.now.file.file.now.symbols
    = omega (arith, c.loop-index-test.false, c.loop-index.invariant.within, ap (λ (xs : List InputSymbol). length xs) c.as_slice-symbols.ensures) in
    subst (λ (n : ℕ). AreNextAt by n c.loop-index.next) all c.loop-index.invariant.next
