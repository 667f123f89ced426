use Rattle.std.proofs.Common.{◌≡◌, ◌<◌, ◌-◌, ℕ, List, map, length, ap, ◌∙◌, arith}
use Rattle.std.specs.List.{flat_map, range_with_len}
use Rattle.rayon.specs.Numbers.{nat_range}
use Rattle.rayon.proofs.ListFacts.{IfOk-then}
use Rattle.rayon.proofs.ToStd.{nat_range-All}
use Rattle.lk_live.specs.declared.error.ReferenceFault.{ReferenceFault}
use Rattle.lk_live.specs.ByGroups.{group_faults}
use Rattle.lk_live.specs.Faults.{file_faults}
use Rattle.lk_live.proofs.GroupJoining.{all_groups, gathered}
use Rattle.lk_gc.proofs.faults_by_groups.faults_of_groups.Goals as goal

pub collect-requires-clause-ready : goal.collect-requires-clause-ready
collect-requires-clause-ready g c κs within =
    let ends = c.into_par_iter.ensures in
    let n = length c.args.link.now.groups in
    let inside = nat_range-All (λ i. i < n) 0 n (λ i low high. high) in
    let good = c.requires.good in
    let table = c.requires.table in
    rw (c.map.ensures.f, c.map.ensures.base, c.with_min_len.ensures.base, ends.0, ends.1, c.len.ensures) (λ k d lt. ((good, table, inside k d lt), λ y p. tt))

pub returns : goal.returns
returns g c =
    let ends = c.into_par_iter.ensures in
    let link = c.args.link.now in
    let groups = link.groups in
    let n = length groups in
    let whole : n - 0 ≡ n = omega arith in
    let made : ℕ → List ReferenceFault = group_faults link c.args.marks.now in
    let lent : ℕ → List ReferenceFault = group_faults c.map.result.f.1.now c.map.result.f.2.now in
    let same : lent ≡ made = λ i. group_faults (c.map.ensures.f i).1.now (c.map.ensures.f i).2.now in
    let h = c.in_ok-lists.ensures in
    let chain = h.1 in
    let places : chain.0 ≡ range_with_len 0 n
    = chain.1 ∙ (λ i. nat_range (c.map.ensures.base i).base.start (c.map.ensures.base i).base.end)
    ∙ (λ i. nat_range (c.with_min_len.ensures.base i).start (c.with_min_len.ensures.base i).end)
    ∙ (λ i. nat_range (ends.0 i) (ends.1 i)) ∙ ap (nat_range 0) c.len.ensures ∙ ap (range_with_len 0) whole in
    let come = gathered (λ v. v.items) lent chain.0 h.0 c.in_ok-lists.lists chain.2 h.2 in
    let joined : (ℕ → List ReferenceFault) → List ℕ → List ReferenceFault = λ f gs. flat_map (λ (l : List ReferenceFault). l) (map f gs) in
    IfOk-then c.in_ok-lists.lists _ _ come (λ v is.
    ap (flat_map (λ (l : List ReferenceFault). l)) is ∙ ap (λ f. joined f chain.0) same ∙ ap (joined made) places ∙ all_groups (file_faults link c.args.marks.now) groups)
