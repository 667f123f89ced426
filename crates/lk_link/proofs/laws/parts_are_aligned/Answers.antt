use Rattle.lk_link.proofs.GoodLinks.{part_aligned, part_alignment-pos, part_alignment-le}
use Rattle.lk_link.proofs.laws.parts_are_aligned.Goals as goal

pub returns : goal.returns
returns c = λ link p part h at_p. (part_aligned link p part h at_p, part_alignment-pos link p part h at_p, part_alignment-le link p part h at_p)
