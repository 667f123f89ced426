use Rattle.std.proofs.Common.{arith}
use Rattle.lk_sizes.proofs.LiveParts.{read_alignment}
use Rattle.lk_sizes.proofs.sorted.tell.Goals as goal

pub exact_capacity-requires : goal.exact_capacity-requires
exact_capacity-requires c = read_alignment c.args.link.now c.parts-parts.result.now c.as_usize.result _ c.requires.good c.parts-parts.ensures (rw c.parts-parts.ensures (omega (arith, c.requires.part, c.as_usize.ensures)))
