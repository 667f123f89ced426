use Rattle.std.proofs.Common.{ℕ, List, Option, map, ap, ◌∙◌}
use Rattle.std.specs.List.{slice_set}
use Rattle.lk_link.specs.declared.resolution.Resolution.{Resolution}
use Rattle.lk_resolution_list.specs.declared.kept.Kept.{Kept}
use Rattle.lk_resolution_list.specs.Kept.{told_of}
use Rattle.lk_resolution_list.specs.Stores.{with_raw_value}
use Rattle.lk_resolution_list.proofs.ValuesSet.{value_set}
use Rattle.lk_resolution_list.proofs.symbol_resolutions.SymbolResolutions.set_raw_value.Goals as goal

pub returns-then-number-len : goal.returns-then-number-len
returns-then-number-len c =
    let entries : List Kept = c.self.inside.kept.items in
    let wholes : List Resolution = c.self.inside.wholes.items in
    let number : ℕ = c.as_usize-number.result in
    let value : ℕ = c.args.value in
    ap (λ (entry : Kept). map (told_of wholes) (slice_set entries number (record entry { raw_value = value }))) c.index_mut.ensures.value
    ∙ value_set wholes entries number value c.index_mut.result.now
    ∙ ap (λ (rs : List (Option Resolution)). with_raw_value rs number value) c.self.view_is
    ∙ ap (λ (s : ℕ). with_raw_value c.args.self.now s value) c.as_usize-number.ensures
