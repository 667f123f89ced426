use Rattle.std.proofs.Common.{◌≡◌, ◌+◌, ◌++◌, ◌<◌, ◌^◌, sum_by}
use Rattle.lk_thunks.specs.Ranges.{file_ranges, primary_bytes, ranges_from}
use Rattle.lk_thunks.proofs.ranges.file_ranges.Given as goal

-- the ranges so far, followed by those of the files that are left, are all; there is room for the latter
abbrev pub invariant-loop-file : goal.invariant-loop-file
invariant-loop-file l =
    (l.ranges.items ++ ranges_from l.link l.live l.begin l.file-iterator ≡ file_ranges l.link l.live l.start)
    × (l.begin + sum_by (primary_bytes l.link l.live) l.file-iterator < 2 ^ 64)
