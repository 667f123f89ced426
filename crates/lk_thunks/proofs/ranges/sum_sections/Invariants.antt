use Rattle.std.proofs.Common.{◌≡◌, ◌+◌, ◌-◌, ◌^◌, ◌<◌, drop, min, sum_by}
use Rattle.std.specs.List.{enumerate_from}
use Rattle.lk_thunks.specs.Ranges.{section_bytes}
use Rattle.lk_thunks.proofs.ranges.sum_sections.Given as goal

-- the bytes so far, with those of the sections that are left, are all
abbrev pub invariant-loop-index : goal.invariant-loop-index
invariant-loop-index l =
    (l.total < 2 ^ 64)
    × (min (l.total + sum_by (section_bytes l.link l.marks l.first) (enumerate_from l.index (drop l.index l.sections))) (2 ^ 64 - 1)
    ≡ min (sum_by (section_bytes l.link l.marks l.first) (enumerate_from 0 l.sections)) (2 ^ 64 - 1))
