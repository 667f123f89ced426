use Rattle.std.proofs.Common.{◌≡◌, drop, map}
use Rattle.std.specs.Prelude.{filter}
use Rattle.std.specs.List.{enumerate_from}
use Rattle.lk_link.specs.PlanSections.{is_thread_local}
use Rattle.lk_place.specs.Alignments.{greatest_of, thread_local_ones}
use Rattle.lk_place.proofs.alignments.thread_local_alignment.Given as goal

-- the greatest so far and of what is left is the greatest of all
abbrev pub invariant-loop-number : goal.invariant-loop-number
invariant-loop-number l =
    greatest_of l.greatest (map (λ q. q.1) (filter (λ q. is_thread_local l.plan q.0) (enumerate_from l.number (drop l.number l.alignments))))
    ≡ greatest_of 1 (thread_local_ones l.plan l.alignments)
