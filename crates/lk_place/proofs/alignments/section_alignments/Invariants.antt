use Rattle.std.proofs.Common.{◌≡◌, ◌++◌, drop, map}
use Rattle.std.specs.List.{enumerate_from}
use Rattle.lk_place.specs.Alignments.{greatest_alignment}
use Rattle.lk_place.proofs.alignments.section_alignments.Given as goal

-- the alignments so far, followed by those of the sections that are left, are all
abbrev pub invariant-loop-number : goal.invariant-loop-number
invariant-loop-number l =
    l.all.items ++ map (λ q. greatest_alignment l.plan l.sizes q.0) (enumerate_from l.number (drop l.number l.plan.sections))
    ≡ map (λ q. greatest_alignment l.plan l.sizes q.0) (enumerate_from 0 l.plan.sections)
