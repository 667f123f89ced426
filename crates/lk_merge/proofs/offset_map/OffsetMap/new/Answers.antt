use Rattle.lk_merge.proofs.StartLemmas.{holds_none}
use Rattle.lk_merge.proofs.offset_map.OffsetMap.new.Goals as goal

pub returns : goal.returns
returns c = holds_none _ c.new.ensures c.new-2.ensures
