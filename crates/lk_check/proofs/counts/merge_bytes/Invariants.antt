use Rattle.std.proofs.Common.{◌≡◌, ◌-◌, ◌^◌, min, sum_by, take}
use Rattle.lk_link.specs.Limits.{merge_size}
use Rattle.lk_check.proofs.counts.merge_bytes.Given as goal

abbrev pub invariant-loop-section : goal.invariant-loop-section
invariant-loop-section l = l.count ≡ min (sum_by merge_size (take l.section-index l.sections)) (2 ^ 64 - 1)
