use Rattle.std.proofs.Common.{rules, ◌≡◌, false, true, length, arith, sym, ◌∙◌}
use Rattle.std.specs.List.{range_with_len}
use Rattle.std.proofs.lemmas.List.FromFn.{length-range_with_len}
use Rattle.lk_reach.proofs.Numbered.{are_numbered}
use Rattle.lk_workers.specs.Closings.{is_group_closed}
use Rattle.lk_workers.proofs.Closing.{all_pass, next_passes, number_at, one_fails}
use Rattle.lk_workers.proofs.closed.Closed.is_whole.Goals as goal

pub overflow_cast-group : goal.overflow_cast-group
overflow_cast-group g c = omega (arith, c.loop-group-test.true, c.len-group-end.ensures, (are_numbered c.args.link.now c.requires.well_formed).few_groups)

pub returns-then-not-is_closed : goal.returns-then-not-is_closed
returns-then-not-is_closed g c =
    let closed = is_group_closed c.args.self.now c.args.link.now in
    let n = length c.args.link.now.groups in
    let fails : closed c.loop-group.group ≡ false = search rules in
    sym (one_fails closed (range_with_len 0 n) c.loop-group.group c.loop-group.group (number_at n c.loop-group.group (omega (arith, c.loop-group-test.true, c.len-group-end.ensures))) fails)

pub loop-group-preserved : goal.loop-group-preserved
loop-group-preserved g c =
    let closed = is_group_closed c.args.self.now c.args.link.now in
    let n = length c.args.link.now.groups in
    let passes : closed c.loop-group.group ≡ true = search rules in
    next_passes closed (range_with_len 0 n) c.loop-group.group c.loop-group.group (number_at n c.loop-group.group (omega (arith, c.loop-group-test.true, c.len-group-end.ensures)))
    c.loop-group.invariant passes

pub returns : goal.returns
returns g c =
    let n = length c.args.link.now.groups in
    let count : c.loop-group.group ≡ c.len-group-end.result = search rules in
    sym (all_pass (is_group_closed c.args.self.now c.args.link.now) (range_with_len 0 n) c.loop-group.group (count ∙ c.len-group-end.ensures ∙ sym (length-range_with_len 0 n)) c.loop-group.invariant)
