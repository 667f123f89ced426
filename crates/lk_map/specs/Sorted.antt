-- Private: ranges in the order of their starts.
use Rattle.std.specs.Prelude.{ℕ, ◌+◌, ◌^◌, ◌<◌, ◌≤◌, List, [], ◌∷◌, slice_index_or}
use Rattle.std.specs.List.{AllAdjacentBelow}
use Rattle.lk_map.specs.declared.spans.Span.{Span}

-- each of the first so many ranges ends no later than the next of them starts
abbrev pub NeighboursApart : List Span → ℕ → Type 0
NeighboursApart spans high = AllAdjacentBelow (λ x y. x.start + x.size ≤ y.start) spans high

-- the range behind this place starts below the end of the one there
abbrev pub StartsBelow : List Span → ℕ → Type 0
StartsBelow spans k = (d : Span) → (slice_index_or spans (k + 1) d).start < (slice_index_or spans k d).start + (slice_index_or spans k d).size

-- each range starts no earlier than the one before it ends, and the first no earlier than this; and none ends past 2^64 - 1
unfoldable pub Follow : ℕ → List Span → Type 0
Follow end [] = Unit {0}
Follow end (x ∷ spans) = (end ≤ x.start) × (x.start + x.size < 2 ^ 64) × Follow (x.start + x.size) spans
