use Rattle.lk_place.specs.Walk.{setting_in}
use Rattle.lk_place.proofs.PlacedParts.{part_aligned}
use Rattle.lk_place.proofs.walk.Walk.part_alignment.Goals as goal

pub alignment_of-requires : goal.alignment_of-requires
alignment_of-requires g c = rw c.parts.ensures (part_aligned (setting_in g.P.Platform.segment_start c.args.self.now) c.args.part _ c.requires.walkable.ready c.requires.in_range)
