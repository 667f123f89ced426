-- A list that is cut by ranges.
use Rattle.std.specs.Prelude.{ℕ, ◌-◌, ◌≤◌, List, [], ◌∷◌, Bool, cond, drop, nat_lt, take}
use Rattle.std.specs.List.{filter}
use Rattle.std.specs.declared.ops.Range.{Range}

-- a range has items
abbrev pub has_items : Range ℕ → Bool
has_items r = nat_lt r.start r.end

-- ranges rise between two numbers, and are apart
abbrev pub RangesRise : ℕ → ℕ → List (Range ℕ) → Type 0
RangesRise low high [] = low ≤ high
RangesRise low high (r ∷ rs) = (low ≤ r.start) × RangesRise r.end high rs

-- a list can be cut by ranges: those that have items are inside, rise and are apart
abbrev pub AreShards : ℕ → List (Range ℕ) → Type 0
AreShards count ranges = RangesRise 0 count (filter has_items ranges)

-- what a range cuts out: where it starts, and its items; 0 and none where it has none
abbrev pub shard : {T : Type 0} → List T → Range ℕ → ℕ × List T
shard items r = cond (has_items r) (r.start, take (r.end - r.start) (drop r.start items)) (0, [])
