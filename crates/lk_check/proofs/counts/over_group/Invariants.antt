use Rattle.std.proofs.Common.{◌≡◌, ◌-◌, ◌^◌, min, sum_by, take}
use Rattle.lk_check.proofs.counts.over_group.Given as goal

abbrev pub invariant-loop-file : goal.invariant-loop-file
invariant-loop-file g l = l.count ≡ min (sum_by g.N.FileNumber.number (take l.file-index l.files)) (2 ^ 64 - 1)
