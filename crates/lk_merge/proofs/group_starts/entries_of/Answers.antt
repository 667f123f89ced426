use Rattle.std.proofs.Common.{◌≡◌, ◌∙◌, ◌<◌, length, map, sym, ap, subst, arith}
use Rattle.lk_merge.specs.GroupStarts.{HasEntries}
use Rattle.lk_merge.specs.Inputs.{located}
use Rattle.lk_merge.specs.MatrixWork.{front_located, group_located}
use Rattle.lk_merge.specs.PieceStarts.{HasStarts}
use Rattle.lk_merge.specs.MergingTables.{entry_of, pieces_in}
use Rattle.lk_merge.specs.OffsetMapTables.{HoldsIn}
use Rattle.lk_merge.proofs.Placing.{group_next, groups_all}
use Rattle.lk_merge.proofs.group_starts.entries_of.Goals as goal

pub loop-starts-preserved : goal.loop-starts-preserved
loop-starts-preserved g c =
    let work = g.J.Brings.work in
    let k = c.loop-starts.group in
    let there : k < length work.groups = omega (arith, c.if-group-groups.false, c.requires.groups) in
    let next = group_next work k c.requires.work there in
    let same : c.into_inner-starts.result.group ≡ k = sym c.group.ensures ∙ c.if-group.false in
    let starts = subst (λ n. HasStarts (group_located work n) c.in-Some-into_starts.starts) same c.in-Some-into_starts.ensures in (
      omega (arith, there),
      subst (λ ls. HasEntries (located work.inputs) ls c.add_all.new.self) (sym next.2)
          (c.in_ok-add_all.ensures (located work.inputs) (front_located work k) (group_located work k) next.0 next.1 starts c.loop-starts.invariant.1),
    )

pub returns : goal.returns
returns g c =
    let work = g.J.Brings.work in
    let all = ap (front_located work) (c.if-group-groups-2.false ∙ c.requires.groups) ∙ groups_all work c.requires.work in
    subst (λ ls. HoldsIn (map (entry_of (pieces_in (located work.inputs))) ls) c.shrink_to_fit.new.self) all (c.shrink_to_fit.ensures _ c.loop-starts.invariant.1.entries)
