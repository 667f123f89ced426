use Rattle.std.proofs.Common.{◌≡◌, ◌+◌, ◌<◌, ◌^◌, sum_by, take}
use Rattle.lk_placement_tests.proofs.placement.placed.fit_behind.Given as goal

-- the end so far is that of the records so far, and is a number of 64 bits
abbrev pub invariant-loop-record : goal.invariant-loop-record
invariant-loop-record l = (l.end ≡ 1000 + sum_by (λ r. r.file_size) (take l.record-index l.records)) × (l.end < 2 ^ 64)
