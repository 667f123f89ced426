use Rattle.std.proofs.Common.{subst}
use Rattle.lk_deltas.specs.Deletions.{AreDeletions}
use Rattle.lk_deltas.proofs.DeltaLemmas.{ranges_rise}
use Rattle.lk_deltas.proofs.deltas.SectionRelaxDeltas.are_deletions.Goals as goal

pub returns : goal.returns
returns c = subst AreDeletions c.self.view_is (ranges_rise 0 0 c.self.inside.deltas.items c.self.invariant)
