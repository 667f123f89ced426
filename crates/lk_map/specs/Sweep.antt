-- Private: sections that have to stand in a segment, and segments, gone through side by side in the order of the file.
use Rattle.std.specs.Prelude.{◌≡◌, ℕ, ◌+◌, ◌-◌, ◌^◌, ◌<◌, ◌≤◌, ◌⊎◌, ◌==◌, ◌&&◌, not, nat_le, Bool, true, false, List, map, min, Option, Some, None, length, slice_index_or}
use Rattle.std.specs.List.{filter, list_any, All, AllPairs, Contains}
use Rattle.std.specs.Ordering.{nat_cmp, ordering_then}
use Rattle.std.specs.BinaryHeap.{IsHeap}
use Rattle.std.specs.declared.cmp.Ordering.{Ordering}
use Rattle.lk_map.specs.declared.map_text.SectionLine.{SectionLine}
use Rattle.lk_map.specs.declared.map_text.SegmentLine.{SegmentLine}
use Rattle.lk_map.specs.declared.sweep.Need.{Need}
use Rattle.lk_map.specs.declared.sweep.Offer.{Offer}
use Rattle.lk_map.specs.declared.sweep.Open.{Open}
use Rattle.lk_map.specs.Checking.{needs_segment}

-- ---- what is gone through

-- the end of a range, or 2^64 - 1 where it lies past that
abbrev pub end_of : ℕ → ℕ → ℕ
end_of start size = min (start + size) (2 ^ 64 - 1)

-- how far memory lies behind the file, and 2^64 more
abbrev pub distance_of : ℕ → ℕ → ℕ
distance_of memory file = memory + 2 ^ 64 - file

-- a section
abbrev pub need_of : SectionLine → Need
need_of s = record {
  distance = distance_of s.mem_offset s.file_offset;
  start = s.file_offset;
  file_end = end_of s.file_offset s.file_size;
  mem_end = end_of s.mem_offset s.mem_size;
  line = s.line;
}

-- a segment
abbrev pub offer_of : SegmentLine → Offer
offer_of g = record {
  distance = distance_of g.mem_offset g.file_offset;
  start = g.file_offset;
  file_end = end_of g.file_offset g.file_size;
  mem_end = end_of g.mem_offset g.mem_size;
}

-- all sections that have to stand in a segment
abbrev pub needs_of : List SectionLine → List Need
needs_of sections = map need_of (filter needs_segment sections)

-- a segment that was come to
abbrev pub open_of : Offer → Open
open_of o = record { distance = o.distance; mem_end = o.mem_end; file_end = o.file_end }

-- whether a segment holds a section
unfoldable pub serves : Offer → Need → Bool
serves o n = (o.distance == n.distance) && (nat_le o.start n.start && (nat_le n.file_end o.file_end && nat_le n.mem_end o.mem_end))

-- whether none of these does
unfoldable pub is_unserved : List Offer → Need → Bool
is_unserved offers n = not (list_any (λ o. serves o n) offers)

-- ---- their order

-- a segment has begun where a section starts: distances come first, and what starts in the file then
abbrev pub HasBegun : Offer → Need → Type 0
HasBegun o n = (o.distance < n.distance) ⊎ ((o.distance ≡ n.distance) × (o.start ≤ n.start))

-- a segment ends before a section does, and so before all later ones: distances come first here too, and in what follows
abbrev pub IsSpent : Open → Need → Type 0
IsSpent x n = (x.distance < n.distance) ⊎ ((x.distance ≡ n.distance) × (x.file_end < n.file_end))

-- a section starts and ends no earlier than another
abbrev pub IsLater : Need → Need → Type 0
IsLater n m = (n.distance < m.distance) ⊎ ((n.distance ≡ m.distance) × (n.start ≤ m.start) × (n.file_end ≤ m.file_end))

-- a segment starts no earlier than another
abbrev pub StartsLater : Offer → Offer → Type 0
StartsLater o p = (o.distance < p.distance) ⊎ ((o.distance ≡ p.distance) × (o.start ≤ p.start))

-- segments in the order of their starts
abbrev pub OffersRise : List Offer → Type 0
OffersRise offers = AllPairs StartsLater offers

-- sections in the order of their starts and ends
abbrev pub NeedsRise : List Need → Type 0
NeedsRise needs = AllPairs IsLater needs

-- ---- open segments: those that were come to, but for some that are spent

-- the order of the heap: the last distance first, and of that the last end in memory
abbrev pub open_cmp : Open → Open → Ordering
open_cmp x y = ordering_then (nat_cmp x.distance y.distance) (ordering_then (nat_cmp x.mem_end y.mem_end) (nat_cmp x.file_end y.file_end))

-- no open segment is better
abbrev pub IsBest : List Open → Open → Type 0
IsBest held x = Contains held x × ((y : Open) → Contains held y → (y.distance < x.distance) ⊎ ((y.distance ≡ x.distance) × (y.mem_end ≤ x.mem_end)))

-- segments are opened up to a section: those that have begun there join what was open
pub record OpensUpTo (offers : List Offer) (next now : ℕ) (need : Need) (old new : List Open) : Type 0 where
  pub from : next ≤ now
  pub within : now ≤ length offers
  pub heap : IsHeap open_cmp old → IsHeap open_cmp new
  pub kept : (x : Open) → Contains old x → Contains new x
  pub opened : (k : ℕ) (d : Offer) → next ≤ k → k < now → Contains new (open_of (slice_index_or offers k d)) × HasBegun (slice_index_or offers k d) need
  pub only : (x : Open) → Contains new x → Contains old x ⊎ ((k : ℕ) × (next ≤ k) × (k < now) × ((d : Offer) → open_of (slice_index_or offers k d) ≡ x))
  pub rest : (k : ℕ) (d : Offer) → now ≤ k → k < length offers → ¬ HasBegun (slice_index_or offers k d) need

-- some spent ones are let go
pub record LetsGo (need : Need) (old new : List Open) : Type 0 where
  pub heap : IsHeap open_cmp old → IsHeap open_cmp new
  pub only : (x : Open) → Contains new x → Contains old x
  pub kept : (x : Open) → Contains old x → Contains new x ⊎ IsSpent x need

-- an open segment ends no earlier than a section, in the file and in memory
abbrev pub HasHolder : List Open → Need → Type 0
HasHolder held need = (x : Open) × Contains held x × (x.distance ≡ need.distance) × (need.file_end ≤ x.file_end) × (need.mem_end ≤ x.mem_end)

-- one does so in memory
abbrev pub HasLong : List Open → Need → Type 0
HasLong held need = (x : Open) × Contains held x × (x.distance ≡ need.distance) × (need.mem_end ≤ x.mem_end)

-- what is open for sections from this one on: all that was come to, but for what is spent
pub record IsOpenFor (offers : List Offer) (next : ℕ) (needs : List Need) (i : ℕ) (held : List Open) : Type 0 where
  pub within : next ≤ length offers
  pub heap : IsHeap open_cmp held
  pub only : (x : Open) → Contains held x → (k : ℕ) × (k < next) × ((d : Offer) → open_of (slice_index_or offers k d) ≡ x)
  pub begun : (k : ℕ) (d : Offer) (j : ℕ) (e : Need) → k < next → i ≤ j → j < length needs → HasBegun (slice_index_or offers k d) (slice_index_or needs j e)
  pub kept : (k : ℕ) (d : Offer) (j : ℕ) (e : Need) → k < next → i ≤ j → j < length needs → Contains held (open_of (slice_index_or offers k d)) ⊎ IsSpent (open_of (slice_index_or offers k d)) (slice_index_or needs j e)

-- ---- what is told

-- the lesser of a line and another, if there is another
abbrev pub lesser_line : Option ℕ → ℕ → ℕ
lesser_line None line = line
lesser_line (Some other) line = min other line

-- the least line of these sections that no segment holds, if there is one
abbrev pub IsLeast : List Offer → List Need → Option ℕ → Type 0
IsLeast offers needs None = All (λ n. is_unserved offers n ≡ false) needs
IsLeast offers needs (Some line) =
    ((n : Need) × Contains needs n × (is_unserved offers n ≡ true) × (n.line ≡ line)) ×
    ((n : Need) → Contains needs n → is_unserved offers n ≡ true → line ≤ n.line)
