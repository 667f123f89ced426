use Rattle.std.proofs.Common.{ℕ, Option, Some, ap, sym, ◌∙◌}
use Rattle.std.specs.Prelude.{option_and_then, option_map}
use Rattle.lk_link.specs.declared.resolution.Resolution.{Resolution}
use Rattle.lk_link.specs.declared.symbol.InputSymbol.{InputSymbol}
use Rattle.lk_resolutions.specs.AtHand.{places_at_hand, setting_at_hand}
use Rattle.lk_resolutions.specs.Entries.{EntrySetting}
use Rattle.lk_resolutions.specs.Resolutions.{ValueAddresses}
use Rattle.lk_resolution_list.specs.Stores.{valued}
use Rattle.lk_resolutions.proofs.EntriesTaken.{placed_is}
use Rattle.lk_resolutions.proofs.resolution.resolve.Goals as goal

pub returns-clause-value : goal.returns-clause-value
returns-clause-value g c =
    let by : EntrySetting = setting_at_hand (g.P.Platform.table_sizes c.args.platform.now) c.args.tables.now in
    let places : ValueAddresses = places_at_hand c.args.tables.now in
    let q : ℕ × InputSymbol = (c.args.numbered.number, c.args.numbered.symbol.now) in
    let with_value : Option ℕ → Option Resolution → Option Resolution = λ value taken. option_and_then (λ r. option_map (λ n. valued n r) value) taken in
    sym (placed_is places by c.args.at_hand.now.file.file.now.kind c.args.at_hand.now.first_input q
    ∙ ap (with_value _) (sym c.in_ok-taken.ensures.taken)
    ∙ ap (λ (value : Option ℕ). with_value value (Some c.in_ok-taken.taken)) (sym c.in_ok-raw_value.ensures))
