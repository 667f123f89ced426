use Rattle.std.proofs.Common.{◌≡◌, ◌<◌, ◌-◌, ℕ, List, Option, map, length, ap, ◌∙◌, arith}
use Rattle.std.specs.List.{flat_map, range_with_len}
use Rattle.rayon.specs.Numbers.{nat_range}
use Rattle.rayon.proofs.ListFacts.{IfOk-then}
use Rattle.rayon.proofs.ToStd.{nat_range-All}
use Rattle.lk_link.specs.declared.resolution.Resolution.{Resolution}
use Rattle.lk_resolutions.specs.AtHand.{places_at_hand, setting_at_hand}
use Rattle.lk_resolutions.specs.ByGroups.{group_resolutions}
use Rattle.lk_resolutions.specs.Resolutions.{file_resolutions}
use Rattle.lk_live.proofs.GroupJoining.{all_groups, gathered}
use Rattle.lk_resolutions.proofs.by_groups.resolve_groups.Goals as goal

pub collect-requires-clause-ready : goal.collect-requires-clause-ready
collect-requires-clause-ready g c κs within =
    let ends = c.into_par_iter.ensures in
    let n = length c.args.tables.now.merged.link.now.groups in
    let inside = nat_range-All (λ i. i < n) 0 n (λ i low high. high) in
    let tables = c.requires.tables in
    let starts = c.requires.starts in
    rw (c.map.ensures.f, c.map.ensures.base, c.with_min_len.ensures.base, ends.0, ends.1, c.len.ensures) (λ k d lt. ((tables, starts, inside k d lt), λ y p. tt))

pub returns : goal.returns
returns g c =
    let ends = c.into_par_iter.ensures in
    let groups = c.args.tables.now.merged.link.now.groups in
    let n = length groups in
    let whole : n - 0 ≡ n = omega arith in
    let made : ℕ → List (Option Resolution) = group_resolutions (places_at_hand c.args.tables.now) (setting_at_hand (g.P.Platform.table_sizes c.args.platform.now) c.args.tables.now) in
    let lent : ℕ → List (Option Resolution) = group_resolutions (places_at_hand c.map.result.f.2.now) (setting_at_hand (g.P.Platform.table_sizes c.map.result.f.1.now) c.map.result.f.2.now) in
    let same : lent ≡ made = λ i. group_resolutions (places_at_hand (c.map.ensures.f i).2.now) (setting_at_hand (g.P.Platform.table_sizes (c.map.ensures.f i).1.now) (c.map.ensures.f i).2.now) in
    let h = c.in_ok-lists.ensures in
    let chain = h.1 in
    let places : chain.0 ≡ range_with_len 0 n
    = chain.1 ∙ (λ i. nat_range (c.map.ensures.base i).base.start (c.map.ensures.base i).base.end)
    ∙ (λ i. nat_range (c.with_min_len.ensures.base i).start (c.with_min_len.ensures.base i).end)
    ∙ (λ i. nat_range (ends.0 i) (ends.1 i)) ∙ ap (nat_range 0) c.len.ensures ∙ ap (range_with_len 0) whole in
    let come = gathered (λ v. v.items) lent chain.0 h.0 c.in_ok-lists.lists chain.2 h.2 in
    let joined : (ℕ → List (Option Resolution)) → List ℕ → List (Option Resolution) = λ f gs. flat_map (λ (l : List (Option Resolution)). l) (map f gs) in
    let each = file_resolutions (places_at_hand c.args.tables.now) (setting_at_hand (g.P.Platform.table_sizes c.args.platform.now) c.args.tables.now) in
    IfOk-then c.in_ok-lists.lists _ _ come (λ v is.
    ap (flat_map (λ (l : List (Option Resolution)). l)) is ∙ ap (λ f. joined f chain.0) same ∙ ap (joined made) places ∙ all_groups each groups)
