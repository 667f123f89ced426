use Rattle.std.proofs.Common.{arith}
use Rattle.std.proofs.lemmas.Bool.Decides.{nat_tests}
use Rattle.lk_group_starts.proofs.Starting.{total_end, total_step}
use Rattle.lk_group_starts.proofs.group_starts.with_all.Goals as goal

pub loop-one-preserved : goal.loop-one-preserved
loop-one-preserved c =
    total_step c.loop-one.all c.args.sum _ c.loop-one.one-index c.args.bytes.now (grind (arith, nat_tests, c.loop-one-test.true)) c.saturating_add-all.ensures c.loop-one.invariant.1

pub returns : goal.returns
returns c =
    total_end c.loop-one.all c.args.sum c.loop-one.one-index c.args.bytes.now (grind (arith, nat_tests, c.loop-one-test.false)) c.loop-one.invariant.0 c.loop-one.invariant.1
