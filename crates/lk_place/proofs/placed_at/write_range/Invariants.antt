use Rattle.std.proofs.Common.{◌≡◌, ℕ, ◌-◌, ◌≤◌}
use Rattle.std.specs.Prelude.{if◌then◌else◌, slice_index}
use Rattle.lk_place.specs.PlacedBefore.{lies_in}
use Rattle.lk_place.proofs.placed_at.write_range.Given as goal

-- the numbers written so far
abbrev pub invariant-loop-place : goal.invariant-loop-place
invariant-loop-place l = (l.first ≤ l.place) × ((p : ℕ) → slice_index l.table p ≡ (if lies_in l.first (l.place - l.first) p then l.number else slice_index l.initial.table p))
