use Rattle.std.proofs.Common.{◌≡◌}
use Rattle.std.specs.List.{filter, range_with_len}
use Rattle.lk_sizes.proofs.header.find_active.Given as goal
use Rattle.lk_sizes.specs.Tables.{active_by}

-- the active ones of the segments so far
abbrev pub invariant-loop-number : goal.invariant-loop-number
invariant-loop-number l = l.active.items ≡ filter (active_by l.link l.emitted) (range_with_len 0 l.number)
