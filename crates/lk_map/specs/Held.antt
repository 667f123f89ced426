-- Private: sections that segments hold in their order.
use Rattle.std.specs.Prelude.{◌≡◌, ℕ, ◌<◌, ◌≤◌, true, List, [], ◌∷◌, Option, Some, None, drop, length, slice_index_or}
use Rattle.std.specs.Bool.{MatchBool}
use Rattle.lk_map.specs.declared.map_text.SectionLine.{SectionLine}
use Rattle.lk_map.specs.declared.map_text.SegmentLine.{SegmentLine}
use Rattle.lk_map.specs.Checking.{holds, needs_segment}

-- the segment at a place holds a section
abbrev pub HoldsAt : List SegmentLine → ℕ → SectionLine → Type 0
HoldsAt segments k s = (k < length segments) × ((d : SegmentLine) → holds (slice_index_or segments k d) s ≡ true)

-- of the segments from a place on this one is the first that holds a section, or none does
abbrev pub IsFirstHolder : List SegmentLine → ℕ → SectionLine → Option ℕ → Type 0
IsFirstHolder segments low s None = (k : ℕ) → low ≤ k → ¬ HoldsAt segments k s
IsFirstHolder segments low s (Some place) = (low ≤ place) × HoldsAt segments place s × ((k : ℕ) → low ≤ k → k < place → ¬ HoldsAt segments k s)

-- each section that has to stand in a segment is held by one, and those behind it by that one or by ones behind it
unfoldable pub AreHeldInOrder : List SegmentLine → List SectionLine → Type 0
AreHeldInOrder segments [] = Unit {0}
AreHeldInOrder segments (s ∷ sections) =
    MatchBool (needs_segment s) ((k : ℕ) × HoldsAt segments k s × AreHeldInOrder (drop k segments) sections) (AreHeldInOrder segments sections)
