use Rattle.lk_explain.specs.Searching.{IsTrail}
use Rattle.lk_explain.proofs.shown.trail.Given as goal

-- from the place on the numbers are right
abbrev pub invariant-loop-place : goal.invariant-loop-place
invariant-loop-place l = IsTrail l.search l.number l.numbers.items l.place

abbrev pub decreases-loop-place : goal.decreases-loop-place
decreases-loop-place l = l.place
