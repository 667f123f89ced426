use Rattle.std.proofs.Common.{◌≡◌, ◌++◌, drop, map}
use Rattle.std.specs.List.{enumerate_from}
use Rattle.lk_link.specs.Inside.{sections_inside, segment_insides}
use Rattle.lk_link.proofs.plan.Plan.sections_of_segments.Given as goal

-- those of the segments so far, followed by those of the segments that are left, are all
abbrev pub invariant-loop-number : goal.invariant-loop-number
invariant-loop-number l = l.insides.items ++ map (λ q. sections_inside l.self.events q.0) (enumerate_from l.number (drop l.number l.self.segments)) ≡ segment_insides l.self
