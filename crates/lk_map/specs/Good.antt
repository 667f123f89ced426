-- Good maps, and that a check tells just those.
use Rattle.std.specs.Prelude.{◌≡◌, ℕ, ◌+◌, ◌-◌, ◌%◌, ◌^◌, ◌<◌, ◌≤◌, true, List, Result, Ok, Err}
use Rattle.std.specs.List.{All, Contains}
use Rattle.lk_map.specs.declared.check.MapFault.{MapFault}
use Rattle.lk_map.specs.declared.check.MapFault.TheVariants.{Overflow, MemOverlap, FileOverlap, NoSegment, NoMemory}
use Rattle.lk_map.specs.declared.map_text.SectionLine.{SectionLine}
use Rattle.lk_map.specs.declared.map_text.SegmentLine.{SegmentLine}
use Rattle.lk_map.specs.Checking.{needs_segment}
use Rattle.lk_map.specs.Spans.{AreApart, file_spans, memory_spans}

-- a segment holds a section: in memory and in the file the section's range lies in the segment's, equally far behind its start in both
pub record IsHeldBy (g : SegmentLine) (s : SectionLine) : Type 0 where
  pub memory_from : g.mem_offset ≤ s.mem_offset
  pub memory_to : s.mem_offset + s.mem_size ≤ g.mem_offset + g.mem_size
  pub file_from : g.file_offset ≤ s.file_offset
  pub file_to : s.file_offset + s.file_size ≤ g.file_offset + g.file_size
  pub distance : g.mem_offset + s.file_offset ≡ s.mem_offset + g.file_offset

-- a map is good: no range ends past 2^64 - 1; sections that count in memory have no byte in common there, nor those that count in the file
-- there; and each section that has to stand in a segment is held by one
pub record IsGood (sections : List SectionLine) (segments : List SegmentLine) : Type 0 where
  pub sections_end : All (λ s. (s.mem_offset + s.mem_size < 2 ^ 64) × (s.file_offset + s.file_size < 2 ^ 64)) sections
  pub segments_end : All (λ g. (g.mem_offset + g.mem_size < 2 ^ 64) × (g.file_offset + g.file_size < 2 ^ 64)) segments
  pub apart_in_memory : AreApart (memory_spans sections)
  pub apart_in_file : AreApart (file_spans sections)
  pub held : (s : SectionLine) → Contains sections s → needs_segment s ≡ true → (g : SegmentLine) × Contains segments g × IsHeldBy g s

-- a check tells good maps: where it finds nothing the map is good, and where it finds a fault it isn't; nothing is said of a want of memory
abbrev pub TellsGood : Result (Unit {0}) MapFault → List SectionLine → List SegmentLine → Type 0
TellsGood (Ok _) sections segments = IsGood sections segments
TellsGood (Err (Overflow line)) sections segments = ¬ IsGood sections segments
TellsGood (Err (MemOverlap a b)) sections segments = ¬ IsGood sections segments
TellsGood (Err (FileOverlap a b)) sections segments = ¬ IsGood sections segments
TellsGood (Err (NoSegment line)) sections segments = ¬ IsGood sections segments
TellsGood (Err NoMemory) sections segments = Unit {0}

-- in a good map each section that has to stand in a segment starts behind the start of one that holds it equally far in memory and in the
-- file, modulo every number
abbrev pub GoodMapsAreCongruent : Type 0
GoodMapsAreCongruent =
    (sections : List SectionLine) (segments : List SegmentLine) → IsGood sections segments → (s : SectionLine) → Contains sections s → needs_segment s ≡ true →
    (g : SegmentLine) × Contains segments g × IsHeldBy g s × ((m : ℕ) → (s.mem_offset - g.mem_offset) % m ≡ (s.file_offset - g.file_offset) % m)
