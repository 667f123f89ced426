use Rattle.std.proofs.Common.{ℕ, ◌<◌, ◌≤◌}
use Rattle.lk_map.specs.Held.{HoldsAt}
use Rattle.lk_map.proofs.held.holder_from.Given as goal

abbrev pub invariant-loop-place : goal.invariant-loop-place
invariant-loop-place l = (l.first ≤ l.place) × ((k : ℕ) → l.first ≤ k → k < l.place → ¬ HoldsAt l.segments k l.section)
