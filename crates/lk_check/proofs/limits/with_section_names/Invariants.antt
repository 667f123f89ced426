use Rattle.std.proofs.Common.{◌≡◌, ◌-◌, ◌+◌, ◌^◌, min, sum_by, length, take}
use Rattle.lk_link.specs.Limits.{file_name_bytes, over_files}
use Rattle.lk_check.proofs.limits.with_section_names.Given as goal

abbrev pub invariant-loop-section : goal.invariant-loop-section
invariant-loop-section l = l.count ≡ min (sum_by (λ s. length s.name + 1) (take l.section-index l.section-items) + over_files file_name_bytes l.link.groups) (2 ^ 64 - 1)
