use Rattle.std.proofs.Common.{◌≡◌, ◌++◌, drop, map}
use Rattle.std.specs.Prelude.{slice_index}
use Rattle.lk_place.specs.Alignments.{greatest_of}
use Rattle.lk_place.proofs.alignments.greatest_of_each.Given as goal

-- the alignments so far, followed by those that are left, are all
abbrev pub invariant-loop-inside : goal.invariant-loop-inside
invariant-loop-inside l =
    l.all.items ++ map (λ inside. greatest_of l.least (map (slice_index l.alignments) inside)) (drop l.inside-index l.insides)
    ≡ map (λ inside. greatest_of l.least (map (slice_index l.alignments) inside)) l.insides
