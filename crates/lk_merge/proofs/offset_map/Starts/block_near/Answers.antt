use Rattle.std.proofs.Common.{◌/◌}
use Rattle.lk_merge.proofs.StartLemmas.{block_between}
use Rattle.lk_merge.proofs.offset_map.Starts.block_near.Goals as goal

pub returns-then-index-end : goal.returns-then-index-end
returns-then-index-end c = λ pieces e h there. block_between pieces c.args.index (c.args.offset / 256) c.before-from.result c.before-end.result e (c.before-from.ensures pieces h) (c.before-end.ensures pieces h) there c.if-from-index.true c.if-index-end.true
