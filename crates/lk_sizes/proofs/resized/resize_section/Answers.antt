use Rattle.std.proofs.Common.{arith}
use Rattle.lk_sizes.proofs.LiveParts.{read_alignment}
use Rattle.lk_sizes.proofs.resized.resize_section.Goals as goal

pub exact_capacity-requires : goal.exact_capacity-requires
exact_capacity-requires c =
    read_alignment c.args.link.now c.parts.result.now c.as_usize.result _ c.requires.good c.parts.ensures (rw c.parts.ensures (omega (arith, c.requires.there.part, c.as_usize.ensures)))
