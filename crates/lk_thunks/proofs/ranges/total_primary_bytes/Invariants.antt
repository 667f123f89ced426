use Rattle.std.proofs.Common.{◌≡◌, ◌+◌, ◌-◌, ◌^◌, ◌<◌, min, sum_by}
use Rattle.lk_thunks.specs.Ranges.{primary_bytes, total_primary_bytes}
use Rattle.lk_thunks.proofs.ranges.total_primary_bytes.Given as goal

-- the bytes so far, with those of the files that are left, are all
abbrev pub invariant-loop-file : goal.invariant-loop-file
invariant-loop-file l =
    (l.total < 2 ^ 64) × (min (l.total + sum_by (primary_bytes l.link l.live) l.file-iterator) (2 ^ 64 - 1) ≡ min (total_primary_bytes l.link l.live) (2 ^ 64 - 1))
