use Rattle.lk_merge.proofs.OnTheWay.{empty_right}
use Rattle.lk_merge.proofs.bucket_work.BucketWork.new.Goals as goal

pub invariant_of-result : goal.invariant_of-result
invariant_of-result g c =
    empty_right g.J.Brings.work c.args.section c.args.number c.args.limit c.new.result c.new-2.result.items c.requires.numbered c.requires.section c.requires.limit c.new.ensures c.new-2.ensures.items
