use Rattle.std.proofs.Common.{◌≡◌, ◌++◌, ◌-◌, ◌^◌, drop, map, min}
use Rattle.lk_sizes.proofs.owners.capped.Given as goal

-- the bytes so far, followed by those of the totals that are left, are all
abbrev pub invariant-loop-total : goal.invariant-loop-total
invariant-loop-total l = l.sizes.items ++ map (λ t. min t.bytes (2 ^ 64 - 1)) (drop l.total-index l.totals) ≡ map (λ t. min t.bytes (2 ^ 64 - 1)) l.totals
