use Rattle.lk_soundness.proofs.Soundness.{memory_disjoint}
use Rattle.lk_soundness.proofs.laws.laid_out_memory_is_disjoint.Goals as goal

pub returns : goal.returns
returns c =
    memory_disjoint c.well_formed_exactly_unfaulted.ensures c.relaxed_stands.ensures c.memory_ranges_are_disjoint.ensures
