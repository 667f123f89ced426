use Rattle.std.proofs.Common.{◌≡◌, ◌≤◌, Some, length, sym, ap, ◌∙◌, ltb, rules}
use Rattle.std.specs.List.{slice_get}
use Rattle.std.proofs.lemmas.List.Sorted.{IsPartitionPoint-from_clause, IsPartitionedBy-ltb}
use Rattle.std.proofs.lemmas.Option.{slice_get-get_or}
use Rattle.lk_sizes.specs.declared.addresses.CommonAddress.{CommonAddress}
use Rattle.lk_resolutions.proofs.CommonsFound.{IsSeam, never_fall, seam_at, seam_found, seam_none, seam_other}
use Rattle.lk_resolutions.proofs.resolution.common_address.Goals as goal

pub returns-in-Some : goal.returns-in-Some
returns-in-Some c =
    let commons = c.args.commons.now in
    let symbol = c.args.symbol in
    let place = c.partition_point-place.result in
    let seam : IsSeam commons symbol place = seam_at commons symbol place
    (IsPartitionPoint-from_clause (λ (d : CommonAddress). ltb d.symbol symbol) commons place c.partition_point-place.ensures.partitioned
    (IsPartitionedBy-ltb (λ (d : CommonAddress). d.symbol) commons symbol (never_fall commons c.requires)) (λ a r q k. search rules)) in
    let there : slice_get commons place ≡ Some c.in-Some.common.now
    = slice_get-get_or commons place c.in-Some.common.now c.in-Some.ensures.lookup.3.0 ∙ ap (λ (d : CommonAddress). Some d) (sym c.in-Some.ensures.lookup.1) in
    seam_found commons symbol place c.in-Some.common.now seam there (search rules)

pub returns-in_default : goal.returns-in_default
returns-in_default c =
    let commons = c.args.commons.now in
    let symbol = c.args.symbol in
    let place = c.partition_point-place.result in
    let seam : IsSeam commons symbol place = seam_at commons symbol place
    (IsPartitionPoint-from_clause (λ (d : CommonAddress). ltb d.symbol symbol) commons place c.partition_point-place.ensures.partitioned
    (IsPartitionedBy-ltb (λ (d : CommonAddress). d.symbol) commons symbol (never_fall commons c.requires)) (λ a r q k. search rules)) in
    let there : slice_get commons place ≡ Some c.in-Some.common.now
    = slice_get-get_or commons place c.in-Some.common.now c.in-Some.ensures.lookup.3.0 ∙ ap (λ (d : CommonAddress). Some d) (sym c.in-Some.ensures.lookup.1) in
    seam_other commons symbol place c.in-Some.common.now c.requires seam there (λ same. absurd (search rules))

pub returns-in_default-2 : goal.returns-in_default-2
returns-in_default-2 c =
    let commons = c.args.commons.now in
    let symbol = c.args.symbol in
    let place = c.partition_point-place.result in
    let seam : IsSeam commons symbol place = seam_at commons symbol place
    (IsPartitionPoint-from_clause (λ (d : CommonAddress). ltb d.symbol symbol) commons place c.partition_point-place.ensures.partitioned
    (IsPartitionedBy-ltb (λ (d : CommonAddress). d.symbol) commons symbol (never_fall commons c.requires)) (λ a r q k. search rules)) in
    let past : length commons ≤ place = search rules in
    seam_none commons symbol place seam past
