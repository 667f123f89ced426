use Rattle.std.proofs.Common.{◌≡◌, ◌+◌, ◌<◌, ◌^◌, drop}
use Rattle.lk_layout.specs.FileRanges.{file_bytes}
use Rattle.lk_layout.proofs.file_ranges.end_behind.Given as goal

-- the end so far, and behind it those that are left
abbrev pub invariant-loop-one : goal.invariant-loop-one
invariant-loop-one l = (l.end < 2 ^ 64) × (l.end + file_bytes (drop l.one-index l.records) ≡ l.start + file_bytes l.records)
