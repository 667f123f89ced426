use Rattle.std.proofs.Common.{◌≡◌, ◌++◌, drop, filter}
use Rattle.lk_thunks.specs.Ranges.{is_object_range}
use Rattle.lk_thunks.proofs.ranges.object_ranges.Given as goal

-- those so far, followed by those that are left
abbrev pub invariant-loop-range : goal.invariant-loop-range
invariant-loop-range l = l.kept.items ++ filter (is_object_range l.link) (drop l.range-index l.ranges) ≡ filter (is_object_range l.link) l.ranges
