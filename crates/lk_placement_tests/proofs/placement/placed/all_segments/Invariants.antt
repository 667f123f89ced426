use Rattle.std.proofs.Common.{ℕ, ◌<◌, All, length}
use Rattle.lk_placement_tests.proofs.placement.placed.all_segments.Given as goal

-- those so far are segments
abbrev pub invariant-loop-number : goal.invariant-loop-number
invariant-loop-number l = All (λ i. i < length l.plan.segments) l.all.items
