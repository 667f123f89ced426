use Rattle.std.proofs.Common.{ℕ, ◌<◌, List, length, map, ap, ◌∙◌, subst, arith}
use Rattle.std.specs.List.{slice_index}
use Rattle.std.specs.Option.{option_map_or}
use Rattle.std.proofs.lemmas.List.{length-map}
use Rattle.std.proofs.lemmas.Result.{IfOk-weaker}
use Rattle.lk_link.specs.Inputs.{Input}
use Rattle.lk_sizes.specs.declared.sorted.InputSortedSection.{InputSortedSection}
use Rattle.lk_sizes.specs.Harvest.{sorted_section}
use Rattle.lk_sizes.specs.Owners.{own_sizes}
use Rattle.lk_ranks.specs.Ranks.{StandByKeys}
use Rattle.lk_sizes.specs.Sorted.{sorted_ones}
use Rattle.lk_sizes.proofs.SortedKeys.{keys_within, told_by_keys}
use Rattle.lk_sizes.proofs.sorted.tell_sorted.Goals as goal

pub in_order-requires : goal.in_order-requires
in_order-requires c k below =
    let link = c.args.link.now in
    let live = c.args.live.now in
    let keys : List ℕ = c.in_ok-told.keys.items in
    let tell : Input → InputSortedSection = sorted_section link (option_map_or (λ s. s.now) c.args.sizes (own_sizes link)) in
    let inside : k < length keys = omega (arith, below, ap length c.as_slice-2.ensures.value) in
    omega (
      arith,
      keys_within link live keys k c.requires.good c.in_ok-told.ensures.keys inside,
      ap (λ (ks : List ℕ). slice_index ks k) c.as_slice-2.ensures.value,
      ap length (c.as_slice.ensures.value ∙ c.in_ok-told.ensures.told),
      length-map (sorted_ones link live) tell,
    )

pub returns : goal.returns
returns c =
    let link = c.args.link.now in
    let live = c.args.live.now in
    let keys : List ℕ = c.in_ok-told.keys.items in
    let tell : Input → InputSortedSection = sorted_section link (option_map_or (λ s. s.now) c.args.sizes (own_sizes link)) in
    IfOk-weaker c.in_order.result _ _ (λ all stand.
    told_by_keys link live tell keys all.items c.requires.good c.in_ok-told.ensures.keys
    (subst (λ (ks : List ℕ). StandByKeys (map tell (sorted_ones link live)) ks all.items) c.as_slice-2.ensures.value
    (subst (λ (ss : List InputSortedSection). StandByKeys ss c.as_slice-2.result.now all.items) (c.as_slice.ensures.value ∙ c.in_ok-told.ensures.told) stand))) c.in_order.ensures
