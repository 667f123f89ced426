-- Private: what is kept of a line that has the form of the one before it.
use Rattle.std.specs.Prelude.{List, [], ◌∷◌}
use Rattle.lk_map.specs.declared.map_text.SectionLine.{SectionLine}
use Rattle.lk_map.specs.declared.map_text.SegmentLine.{SegmentLine}
use Rattle.lk_map.specs.declared.straight.Kept.{Kept}
use Rattle.lk_map.specs.declared.straight.Kept.TheVariants.{Section, Segment, Nothing}

-- the section that is kept
abbrev pub kept_sections : Kept → List SectionLine
kept_sections (Section section) = section ∷ []
kept_sections (Segment segment) = []
kept_sections Nothing = []

-- the segment
abbrev pub kept_segments : Kept → List SegmentLine
kept_segments (Section section) = []
kept_segments (Segment segment) = segment ∷ []
kept_segments Nothing = []
