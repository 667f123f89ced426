use Rattle.lk_merge.proofs.Taking.{stopped, took, stops}
use Rattle.lk_merge.proofs.merging.BucketState.add.Goals as goal

pub returns-then-is_some : goal.returns-then-is_some
returns-then-is_some c = λ section limit b pieces h. stopped section limit b pieces c.args.string.bytes.now c.args.self.now h c.if-is_some.ensures

pub returns-in-Ok : goal.returns-in-Ok
returns-in-Ok c = λ section limit b pieces h.
    took section limit b pieces c.args.string.bytes.now c.args.self.now h c.in-Ok.place c.add_string.new.self c.if-is_some.ensures c.in-Ok.ensures.0 c.in-Ok.ensures.1

pub returns-in_default : goal.returns-in_default
returns-in_default c = λ section limit b pieces h.
    stops section limit b pieces c.args.string.bytes.now c.args.self.now h c.in-Err.error c.add_string.new.self c.if-is_some.ensures c.in_default.not-NoMemory c.in-Err.ensures
