-- What the lines of a map say of sections and segments.
use Rattle.std.specs.Prelude.{ℕ, ◌+◌, ◌<◌, ◌==◌, if◌then◌else◌, List, [], ◌∷◌, ◌++◌, Option, None, slice_index_or, unwrap_or}
use Rattle.std.specs.List.{AllPairs}
use Rattle.lk_map.specs.declared.forms.Form.{Form}
use Rattle.lk_map.specs.declared.map_text.SectionLine.{SectionLine}
use Rattle.lk_map.specs.declared.map_text.SegmentLine.{SegmentLine}
use Rattle.lk_map.specs.Forms.{rank}
use Rattle.lk_map.specs.Lines.{Line}

-- the number at a place, or 0 where there is none
abbrev pub number_at : List (Option ℕ) → ℕ → ℕ
number_at values place = unwrap_or (slice_index_or values place None) 0

-- what line n says of a section, by its values: its number and its index, memory and file, each with start and bytes, alignment,
-- load address and attributes
abbrev pub section_at : ℕ → List (Option ℕ) → SectionLine
section_at n values = record {
  line = n;
  mem_offset = number_at values 2;
  mem_size = number_at values 3;
  file_offset = number_at values 4;
  file_size = number_at values 5;
  attrs = number_at values 8;
}

-- what line n says of a segment, by its values: its number, memory and file, each with start and bytes, and alignment
abbrev pub segment_at : ℕ → List (Option ℕ) → SegmentLine
segment_at n values = record {
  line = n;
  mem_offset = number_at values 1;
  mem_size = number_at values 2;
  file_offset = number_at values 3;
  file_size = number_at values 4;
}

-- what line n tells of a section: that, or nothing where the line is of another kind
unfoldable pub section_told : ℕ → Form → List (Option ℕ) → List SectionLine
section_told n form values = if rank form == 1 then section_at n values ∷ [] else []

-- the same of a segment
unfoldable pub segment_told : ℕ → Form → List (Option ℕ) → List SegmentLine
segment_told n form values = if rank form == 3 then segment_at n values ∷ [] else []

-- the sections of lines of which the first is line n
unfoldable pub sections_of : ℕ → List Line → List SectionLine
sections_of n [] = []
sections_of n (l ∷ ls) = section_told n l.form l.values ++ sections_of (n + 1) ls

-- the segments
unfoldable pub segments_of : ℕ → List Line → List SegmentLine
segments_of n [] = []
segments_of n (l ∷ ls) = segment_told n l.form l.values ++ segments_of (n + 1) ls

-- sections stand in rising order of their lines
abbrev pub LinesRise : List SectionLine → Type 0
LinesRise sections = AllPairs (λ s t. s.line < t.line) sections
