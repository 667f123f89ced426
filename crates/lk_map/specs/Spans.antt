-- Ranges of sections, in memory or in the file, and the first two that overlap.
use Rattle.std.specs.Prelude.{◌≡◌, ℕ, ◌+◌, ◌<◌, ◌≤◌, ◌⊎◌, ◌==◌, ◌&&◌, not, nat_lt, Bool, List, map, min, max, Option, Some, None, bit_and}
use Rattle.std.specs.List.{filter, AllPairs, Contains}
use Rattle.lk_map.specs.declared.map_text.SectionLine.{SectionLine}
use Rattle.lk_map.specs.declared.spans.Span.{Span}

-- ---- which sections count

-- whether a flag is set in attributes
abbrev pub is_set : ℕ → ℕ → Bool
is_set flag attrs = not (bit_and attrs flag == 0)

-- whether a section is allocated
abbrev pub is_allocated : SectionLine → Bool
is_allocated s = is_set 1 s.attrs

-- whether a section counts in memory: it is allocated and has bytes there, and isn't thread-local and zero-filled, which takes no memory
-- of its own
unfoldable pub counts_in_memory : SectionLine → Bool
counts_in_memory s = nat_lt 0 s.mem_size && (is_allocated s && not (is_set 8 s.attrs && is_set 16 s.attrs))

-- whether it counts in the file: it has bytes there
unfoldable pub counts_in_file : SectionLine → Bool
counts_in_file s = nat_lt 0 s.file_size

-- ---- ranges

-- the ranges in memory of all sections that count there, each with its line
abbrev pub memory_spans : List SectionLine → List Span
memory_spans sections = map (λ s. record { start = s.mem_offset; line = s.line; size = s.mem_size }) (filter counts_in_memory sections)

-- those in the file of all that count there
abbrev pub file_spans : List SectionLine → List Span
file_spans sections = map (λ s. record { start = s.file_offset; line = s.line; size = s.file_size }) (filter counts_in_file sections)

-- ranges have no byte in common, any two of them
abbrev pub AreApart : List Span → Type 0
AreApart spans = AllPairs (λ x y. (x.start + x.size ≤ y.start) ⊎ (y.start + y.size ≤ x.start)) spans

-- ---- the first overlap

-- a range is before another: it starts lower, or at the same place and has the lower line
abbrev pub IsBefore : Span → Span → Type 0
IsBefore x y = (x.start < y.start) ⊎ ((x.start ≡ y.start) × (x.line < y.line))

-- a range starts below the end of one before it
abbrev pub Overlaps : Span → Span → Type 0
Overlaps x y = IsBefore x y × (y.start < x.start + x.size)

-- the pair that is told: no range before y starts below the end of one before it, and none before x ends above the start of y
pub record IsFirstOverlap (spans : List Span) (x y : Span) : Type 0 where
  pub one : Contains spans x
  pub other : Contains spans y
  pub overlap : Overlaps x y
  pub first : (v w : Span) → Contains spans v → Contains spans w → Overlaps v w → ¬ IsBefore w y
  pub earliest : (v : Span) → Contains spans v → Overlaps v y → ¬ IsBefore v x

-- what is found among ranges: none has a byte in common with another; or the lines of the first overlap, in rising order
unfoldable pub FindsOverlap : List Span → Option (ℕ × ℕ) → Type 0
FindsOverlap spans None = AreApart spans
FindsOverlap spans (Some lines) = (x : Span) × (y : Span) × IsFirstOverlap spans x y × (lines.0 ≡ min x.line y.line) × (lines.1 ≡ max x.line y.line)

-- the lines of ranges rise
abbrev pub LinesRiseIn : List Span → Type 0
LinesRiseIn spans = AllPairs (λ x y. x.line < y.line) spans
