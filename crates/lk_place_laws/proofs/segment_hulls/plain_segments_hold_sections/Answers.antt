use Rattle.lk_place_laws.proofs.SegmentHulls.{plain_segments_hold_sections}
use Rattle.lk_place_laws.proofs.segment_hulls.plain_segments_hold_sections.Goals as goal

pub returns : goal.returns
returns c = plain_segments_hold_sections
