use Rattle.lk_place_laws.proofs.SegmentHulls.{segments_fit}
use Rattle.lk_place_laws.proofs.segment_hulls.segments_fit.Goals as goal

pub returns : goal.returns
returns c = segments_fit
