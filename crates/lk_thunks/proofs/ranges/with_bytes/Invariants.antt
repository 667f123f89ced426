use Rattle.std.proofs.Common.{◌≡◌, ◌++◌, drop, filter}
use Rattle.lk_thunks.specs.Ranges.{has_bytes}
use Rattle.lk_thunks.proofs.ranges.with_bytes.Given as goal

-- those so far, followed by those that are left
abbrev pub invariant-loop-range : goal.invariant-loop-range
invariant-loop-range l = l.kept.items ++ filter has_bytes (drop l.range-index l.ranges) ≡ filter has_bytes l.ranges
