use Rattle.std.proofs.Common.{◌≡◌, length, arith}
use Rattle.lk_merge.proofs.GroupBrings.{brought_none}
use Rattle.lk_merge.proofs.group_strings.GroupStrings.new.Goals as goal

pub returns : goal.returns
returns c = brought_none _ (let n : length c.loop.buckets.items ≡ 16 = omega (arith, c.loop.invariant.0, c.loop-test.false, c.loop.auto.counter-end) in n) c.loop.invariant.1 c.new-2.ensures
