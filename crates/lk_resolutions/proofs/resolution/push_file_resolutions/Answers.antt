use Rattle.std.proofs.Common.{◌≡◌, ◌++◌, ℕ, List, Option, map, sym, ap, ◌∙◌, subst}
use Rattle.std.specs.Prelude.{OnOk}
use Rattle.std.specs.List.{enumerate_from}
use Rattle.lk_link.specs.declared.resolution.Resolution.{Resolution}
use Rattle.lk_link.specs.declared.walks.FileRef.{FileRef}
use Rattle.lk_link.specs.Inputs.{first_input}
use Rattle.lk_link.specs.Symbols.{first_symbol}
use Rattle.lk_link.specs.Walks.{file_of}
use Rattle.lk_resolutions.specs.AtHand.{places_at_hand, setting_at_hand}
use Rattle.lk_resolutions.specs.Entries.{EntrySetting}
use Rattle.lk_resolutions.specs.EntryWords.{AreNextAt}
use Rattle.lk_resolutions.specs.Resolutions.{file_resolutions, resolution_of}
use Rattle.lk_resolutions.proofs.resolution.push_file_resolutions.Goals as goal

pub push_resolutions-requires-clause-next : goal.push_resolutions-requires-clause-next
push_resolutions-requires-clause-next g c =
    let by : EntrySetting = setting_at_hand (g.P.Platform.table_sizes c.args.platform.now) c.args.tables.now in
    let groups = c.args.tables.now.merged.link.now.groups in
    let number : c.file_at_hand-at_hand.result.first_symbol ≡ first_symbol groups c.args.file.id
    = c.file_at_hand-at_hand.ensures.found.symbol ∙ ap (λ (f : FileRef). first_symbol groups f.id) c.file_at_hand-at_hand.ensures.file in
    subst (λ (n : ℕ). AreNextAt by n c.args.next.now) (sym number) c.requires.next

pub returns-clause-pushed : goal.returns-clause-pushed
returns-clause-pushed g c =
    let groups = c.args.tables.now.merged.link.now.groups in
    let hand = c.file_at_hand-at_hand.result in
    let by : EntrySetting = setting_at_hand (g.P.Platform.table_sizes c.args.platform.now) c.args.tables.now in
    let each : FileRef → ℕ → ℕ → List (Option Resolution)
    = λ f n m. map (resolution_of (places_at_hand c.args.tables.now) by f.file.now.kind n) (enumerate_from m f.file.now.symbols) in
    let same : each hand.file hand.first_input hand.first_symbol ≡ file_resolutions (places_at_hand c.args.tables.now) by (file_of c.args.file)
    = ap (λ (n : ℕ). each hand.file n hand.first_symbol) c.file_at_hand-at_hand.ensures.found.input
    ∙ ap (λ (n : ℕ). each hand.file (first_input groups hand.file.id) n) c.file_at_hand-at_hand.ensures.found.symbol
    ∙ ap (λ (f : FileRef). each f (first_input groups f.id) (first_symbol groups f.id)) c.file_at_hand-at_hand.ensures.file in
    subst (λ (rs : List (Option Resolution)). OnOk c.push_resolutions.result (c.push_resolutions.new.resolutions ≡ c.args.resolutions.now ++ rs)) same
    c.push_resolutions.ensures.pushed
