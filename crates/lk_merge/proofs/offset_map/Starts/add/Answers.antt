use Rattle.std.proofs.Common.{refl, arith}
use Rattle.lk_merge.proofs.StartLemmas.{one_added}
use Rattle.lk_merge.proofs.offset_map.Starts.add.Goals as goal

pub returns : goal.returns
returns c = λ pieces h.
    let b = c.in_ok-begin.ensures pieces h in
    one_added pieces c.begin.new.self _ (record { start = c.args.start; place = c.args.place }) b.0 refl c.in_ok-push.ensures.items c.in_ok-push-2.ensures.items b.1 (omega (arith, c.len.ensures, c.if-len-block.false)) (omega arith)
