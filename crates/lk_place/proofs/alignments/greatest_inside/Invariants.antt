use Rattle.std.proofs.Common.{◌≡◌, drop, map}
use Rattle.std.specs.Prelude.{slice_index}
use Rattle.lk_place.specs.Alignments.{greatest_of}
use Rattle.lk_place.proofs.alignments.greatest_inside.Given as goal

-- the greatest so far and of what is left is the greatest of all
abbrev pub invariant-loop-section : goal.invariant-loop-section
invariant-loop-section l = greatest_of l.greatest (map (slice_index l.alignments) (drop l.section-index l.inside)) ≡ greatest_of l.fn.least (map (slice_index l.alignments) l.inside)
