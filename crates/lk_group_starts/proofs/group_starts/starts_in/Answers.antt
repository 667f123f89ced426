use Rattle.std.proofs.Common.{length, arith, refl, ap, ◌∙◌}
use Rattle.std.proofs.lemmas.Bool.Decides.{nat_tests}
use Rattle.lk_group_starts.proofs.Starting.{all_starts, turn}
use Rattle.lk_group_starts.proofs.group_starts.starts_in.Goals as goal

pub loop-group-init : goal.loop-group-init
loop-group-init c = (c.new-starts.ensures.items, refl, omega (arith, c.ranges.own.fits), omega arith)

pub loop-group-preserved : goal.loop-group-preserved
loop-group-preserved c =
    let sized = c.len-count.ensures ∙ ap length c.group-item.is in
    turn c.args.groups.now c.args.own c.args.bytes.now _ _ _ _ _ _ _ _ _ _ c.len-count.result c.loop-group.group-index c.group-item.result (grind (arith, nat_tests, c.loop-group-test.true)) sized
    c.loop-group.invariant.0 c.loop-group.invariant.1 c.loop-group.invariant.2 c.loop-group.invariant.3
    c.if_any.ensures c.in_ok-push.ensures.items c.split_first.ensures.first c.split_first.ensures.rest c.with_all-sum.ensures c.saturating_add-files.ensures

pub returns : goal.returns
returns c =
    all_starts c.args.groups.now c.args.own c.args.bytes.now _ _ _ _ _ c.loop-group.group-index (omega (arith, c.loop-group.auto.group-index-end))
    c.loop-group.invariant.0 c.loop-group.invariant.2 c.loop-group.invariant.3 c.if_any-2.ensures c.in_ok-push-2.ensures.items
