-- What a map's sections and segments are checked for, and which fault is told.
use Rattle.std.specs.Prelude.{◌≡◌, ℕ, ◌+◌, ◌^◌, ◌==◌, ◌&&◌, ◌||◌, not, nat_lt, nat_le, Bool, List, Option, Some, None, Result, Ok, Err, option_map}
use Rattle.std.specs.List.{find, list_any}
use Rattle.std.specs.Option.{option_or}
use Rattle.lk_map.specs.declared.check.MapFault.{MapFault}
use Rattle.lk_map.specs.declared.check.MapFault.TheVariants.{Overflow, MemOverlap, FileOverlap, NoSegment, NoMemory}
use Rattle.lk_map.specs.declared.map_text.SectionLine.{SectionLine}
use Rattle.lk_map.specs.declared.map_text.SegmentLine.{SegmentLine}
use Rattle.lk_map.specs.Spans.{AreApart, FindsOverlap, file_spans, is_allocated, memory_spans}

-- ---- ends past the last address

-- whether a range ends past 2^64 - 1
abbrev pub ends_past : ℕ → ℕ → Bool
ends_past start size = nat_le (2 ^ 64) (start + size)

-- whether a section does, in memory or in the file
unfoldable pub section_overflows : SectionLine → Bool
section_overflows s = ends_past s.mem_offset s.mem_size || ends_past s.file_offset s.file_size

-- whether a segment does
unfoldable pub segment_overflows : SegmentLine → Bool
segment_overflows g = ends_past g.mem_offset g.mem_size || ends_past g.file_offset g.file_size

-- the line of the first section or segment that does, if one does; all sections stand before the segments
unfoldable pub first_overflow : List SectionLine → List SegmentLine → Option ℕ
first_overflow sections segments = option_or (option_map (λ s. s.line) (find section_overflows sections)) (option_map (λ g. g.line) (find segment_overflows segments))

-- ---- sections in segments

-- whether a section has to stand in a segment: it is allocated and has bytes in the file
unfoldable pub needs_segment : SectionLine → Bool
needs_segment s = nat_lt 0 s.file_size && is_allocated s

-- whether a range holds another
abbrev pub is_within : ℕ → ℕ → ℕ → ℕ → Bool
is_within start size outer_start outer_size = nat_le outer_start start && nat_le (start + size) (outer_start + outer_size)

-- whether a segment holds a section: in memory and in the file, at equal distances from its start
unfoldable pub holds : SegmentLine → SectionLine → Bool
holds g s =
    is_within s.mem_offset s.mem_size g.mem_offset g.mem_size && (is_within s.file_offset s.file_size g.file_offset g.file_size
    && (g.mem_offset + s.file_offset == s.mem_offset + g.file_offset))

-- whether a section has to stand in a segment, and none holds it
unfoldable pub is_outside : List SegmentLine → SectionLine → Bool
is_outside segments s = needs_segment s && not (list_any (λ g. holds g s) segments)

-- the line of the first section that is so
unfoldable pub first_outside : List SectionLine → List SegmentLine → Option ℕ
first_outside sections segments = option_map (λ s. s.line) (find (is_outside segments) sections)

-- ---- the check

-- a verdict on sections and segments: the first fault in this order, or that there is none
abbrev pub IsVerdict : Result (Unit {0}) MapFault → List SectionLine → List SegmentLine → Type 0
IsVerdict (Ok _) sections segments =
    (first_overflow sections segments ≡ None) × AreApart (memory_spans sections) × AreApart (file_spans sections) × (first_outside sections segments ≡ None)
IsVerdict (Err (Overflow line)) sections segments = first_overflow sections segments ≡ Some line
IsVerdict (Err (MemOverlap a b)) sections segments = (first_overflow sections segments ≡ None) × FindsOverlap (memory_spans sections) (Some (a, b))
IsVerdict (Err (FileOverlap a b)) sections segments =
    (first_overflow sections segments ≡ None) × AreApart (memory_spans sections) × FindsOverlap (file_spans sections) (Some (a, b))
IsVerdict (Err (NoSegment line)) sections segments =
    (first_overflow sections segments ≡ None) × AreApart (memory_spans sections) × AreApart (file_spans sections) × (first_outside sections segments ≡ Some line)
IsVerdict (Err NoMemory) sections segments = ⊥

-- what a check tells of sections and segments: the verdict on them; nothing is said of a want of memory
abbrev pub Judges : Result (Unit {0}) MapFault → List SectionLine → List SegmentLine → Type 0
Judges (Err NoMemory) sections segments = Unit {0}
Judges result sections segments = IsVerdict result sections segments
