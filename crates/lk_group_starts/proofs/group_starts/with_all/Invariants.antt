use Rattle.std.proofs.Common.{◌≡◌, ◌+◌, ◌<◌, ◌^◌, drop, sum_by}
use Rattle.lk_group_starts.specs.GroupStarts.{capped}
use Rattle.lk_group_starts.proofs.group_starts.with_all.Given as goal

-- the sum so far, with what is left, is the whole
abbrev pub invariant-loop-one : goal.invariant-loop-one
invariant-loop-one l = (l.all < 2 ^ 64) × (capped (l.all + sum_by (λ b. b) (drop l.one-index l.bytes)) ≡ capped (l.sum + sum_by (λ b. b) l.bytes))
