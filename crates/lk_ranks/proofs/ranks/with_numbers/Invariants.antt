use Rattle.std.proofs.Common.{◌≡◌, map, take}
use Rattle.std.specs.List.{enumerate_from}
use Rattle.lk_ranks.proofs.ranks.with_numbers.Given as goal

-- the names so far
abbrev pub invariant-loop-number : goal.invariant-loop-number
invariant-loop-number l = l.all.items ≡ map (λ q. (q.1, q.0)) (enumerate_from 0 (take l.number l.names))
