use Rattle.lk_merge.proofs.StartLemmas.{holds_none}
use Rattle.lk_merge.proofs.offset_map.OffsetMap.with_capacity.Goals as goal

pub returns : goal.returns
returns c = holds_none _ c.in_ok-with_capacity.ensures c.new.ensures
