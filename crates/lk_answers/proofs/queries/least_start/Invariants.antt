use Rattle.std.proofs.Common.{◌≡◌, drop, filter, map, slice_index}
use Rattle.std.specs.List.{enumerate_from}
use Rattle.lk_link.specs.declared.plan.attributes.TheConstants.{TLS}
use Rattle.lk_link.specs.PlanSections.{is_set}
use Rattle.lk_place.specs.Segments.{least}
use Rattle.lk_answers.specs.Queries.{thread_local_starts}
use Rattle.lk_answers.proofs.Querying.{least_with}
use Rattle.lk_answers.proofs.queries.least_start.Given as goal

-- the least so far, with those that are left, is the least of all
abbrev pub invariant-loop-number : goal.invariant-loop-number
invariant-loop-number l =
    least_with l.least (map (λ q. q.1.mem_offset) (filter (λ q. is_set TLS (slice_index l.attributes q.0)) (enumerate_from l.number (drop l.number l.records))))
    ≡ least 0 (thread_local_starts l.attributes l.records)
