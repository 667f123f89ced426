use Rattle.lk_soundness.proofs.MemoryStays.{memory_stays}
use Rattle.lk_soundness.proofs.laws.memory_stays.Goals as goal

pub returns : goal.returns
returns c = memory_stays c.well_formed_exactly_unfaulted.ensures c.relaxed_stands.ensures
