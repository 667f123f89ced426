use Rattle.std.proofs.Common.{◌≡◌, ◌<◌, ◌-◌, ℕ, List, map, length, ap, ◌∙◌, arith}
use Rattle.std.specs.List.{flat_map, range_with_len}
use Rattle.rayon.specs.Numbers.{nat_range}
use Rattle.rayon.proofs.ListFacts.{IfOk-then}
use Rattle.rayon.proofs.ToStd.{nat_range-All}
use Rattle.lk_live.proofs.GroupJoining.{all_groups, all_made, gathered, joined_of}
use Rattle.lk_tables.specs.declared.by_groups.GroupShares.{GroupShares}
use Rattle.lk_tables.specs.declared.commons.Common.{Common}
use Rattle.lk_tables.specs.declared.shares.FileShare.{FileShare}
use Rattle.lk_tables.specs.ByGroups.{group_shares}
use Rattle.lk_tables.specs.Commons.{commons_of}
use Rattle.lk_tables.specs.ShareWords.{first_share}
use Rattle.lk_tables.proofs.by_groups.shares_of_groups.Goals as goal

pub collect-requires-clause-ready : goal.collect-requires-clause-ready
collect-requires-clause-ready g c κs within =
    let ends = c.into_par_iter.ensures in
    let n = length c.args.link.now.groups in
    let inside = nat_range-All (λ i. i < n) 0 n (λ i low high. high) in
    let good = c.requires in
    rw (c.map.ensures.f, c.map.ensures.base, c.with_min_len.ensures.base, ends.0, ends.1, c.len.ensures) (λ k d lt. ((good, inside k d lt), λ y p. tt))

pub returns-clause-files : goal.returns-clause-files
returns-clause-files g c =
    let ends = c.into_par_iter.ensures in
    let link = c.args.link.now in
    let sizes = g.P.Platform.table_sizes c.args.platform.now in
    let n = length link.groups in
    let whole : n - 0 ≡ n = omega arith in
    let made : ℕ → GroupShares = group_shares sizes link c.args.live.now in
    let lent : ℕ → GroupShares = group_shares (g.P.Platform.table_sizes c.map.result.f.2.now) c.map.result.f.1.now c.map.result.f.3.now in
    let same : lent ≡ made = λ i. group_shares (g.P.Platform.table_sizes (c.map.ensures.f i).2.now) (c.map.ensures.f i).1.now (c.map.ensures.f i).3.now in
    let h = c.in_ok-groups.ensures in
    let chain = h.1 in
    let places : chain.0 ≡ range_with_len 0 n
    = chain.1 ∙ (λ i. nat_range (c.map.ensures.base i).base.start (c.map.ensures.base i).base.end)
    ∙ (λ i. nat_range (c.with_min_len.ensures.base i).start (c.with_min_len.ensures.base i).end)
    ∙ (λ i. nat_range (ends.0 i) (ends.1 i)) ∙ ap (nat_range 0) c.len.ensures ∙ ap (range_with_len 0) whole in
    let come = gathered (λ v. v.items) lent chain.0 h.0 c.in_ok-groups.groups chain.2 h.2 in
    let joined : (ℕ → GroupShares) → List ℕ → List FileShare = λ f gs. flat_map (λ (s : GroupShares). s.files) (map f gs) in
    IfOk-then c.in_ok-groups.groups _ _ come (λ v is.
    ap (flat_map (λ (s : GroupShares). s.files)) is ∙ ap (λ f. joined f chain.0) same ∙ ap (joined made) places
    ∙ joined_of (λ (s : GroupShares). s.files) made (range_with_len 0 n) ∙ all_made (first_share sizes link c.args.live.now) link.groups)

pub returns-clause-commons : goal.returns-clause-commons
returns-clause-commons g c =
    let ends = c.into_par_iter.ensures in
    let link = c.args.link.now in
    let n = length link.groups in
    let whole : n - 0 ≡ n = omega arith in
    let made : ℕ → GroupShares = group_shares (g.P.Platform.table_sizes c.args.platform.now) link c.args.live.now in
    let lent : ℕ → GroupShares = group_shares (g.P.Platform.table_sizes c.map.result.f.2.now) c.map.result.f.1.now c.map.result.f.3.now in
    let same : lent ≡ made = λ i. group_shares (g.P.Platform.table_sizes (c.map.ensures.f i).2.now) (c.map.ensures.f i).1.now (c.map.ensures.f i).3.now in
    let h = c.in_ok-groups.ensures in
    let chain = h.1 in
    let places : chain.0 ≡ range_with_len 0 n
    = chain.1 ∙ (λ i. nat_range (c.map.ensures.base i).base.start (c.map.ensures.base i).base.end)
    ∙ (λ i. nat_range (c.with_min_len.ensures.base i).start (c.with_min_len.ensures.base i).end)
    ∙ (λ i. nat_range (ends.0 i) (ends.1 i)) ∙ ap (nat_range 0) c.len.ensures ∙ ap (range_with_len 0) whole in
    let come = gathered (λ v. v.items) lent chain.0 h.0 c.in_ok-groups.groups chain.2 h.2 in
    let joined : (ℕ → GroupShares) → List ℕ → List Common = λ f gs. flat_map (λ (s : GroupShares). s.commons) (map f gs) in
    IfOk-then c.in_ok-groups.groups _ _ come (λ v is.
    ap (flat_map (λ (s : GroupShares). s.commons)) is ∙ ap (λ f. joined f chain.0) same ∙ ap (joined made) places
    ∙ joined_of (λ (s : GroupShares). s.commons) made (range_with_len 0 n) ∙ all_groups (commons_of link c.args.live.now) link.groups)
