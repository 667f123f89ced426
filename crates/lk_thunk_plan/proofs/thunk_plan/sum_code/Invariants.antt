use Rattle.std.proofs.Common.{◌≡◌, ◌+◌, ◌-◌, ◌^◌, ◌<◌, drop, min, sum_by}
use Rattle.std.specs.List.{enumerate_from}
use Rattle.lk_thunk_plan.specs.Planning.{other_code_by}
use Rattle.lk_thunk_plan.proofs.thunk_plan.sum_code.Given as goal

-- the bytes so far, with those of the parts that are left, are all
abbrev pub invariant-loop-number : goal.invariant-loop-number
invariant-loop-number l =
    (l.sum < 2 ^ 64)
    × (min (l.sum + sum_by (other_code_by l.link l.attributes) (enumerate_from l.number (drop l.number l.contents))) (2 ^ 64 - 1)
    ≡ min (sum_by (other_code_by l.link l.attributes) (enumerate_from 0 l.contents)) (2 ^ 64 - 1))
