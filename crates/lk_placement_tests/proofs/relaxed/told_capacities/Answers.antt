use Rattle.std.proofs.Common.{IsTrue, refl}
use Rattle.lk_link.specs.Alignments.{is_alignment}
use Rattle.lk_placement_tests.proofs.relaxed.told_capacities.Goals as goal

eight : IsTrue (is_alignment 8)
unfolding is_alignment
eight = refl

pub capacity-few-requires : goal.capacity-few-requires
capacity-few-requires c = eight

pub capacity-most-requires : goal.capacity-most-requires
capacity-most-requires c = eight
