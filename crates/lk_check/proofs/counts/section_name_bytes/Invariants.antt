use Rattle.std.proofs.Common.{◌≡◌, ◌+◌, ◌-◌, ◌^◌, length, min, sum_by, take}
use Rattle.lk_check.proofs.counts.section_name_bytes.Given as goal

abbrev pub invariant-loop-section : goal.invariant-loop-section
invariant-loop-section l = l.count ≡ min (sum_by (λ s. length s.name + 1) (take l.section-index l.sections)) (2 ^ 64 - 1)
