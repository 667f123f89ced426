use Rattle.std.proofs.Common.{◌≡◌, map}
use Rattle.std.specs.List.{range_with_len}
use Rattle.lk_sizes.specs.Tables.{edges_by}
use Rattle.lk_sizes.proofs.header.mark_told.Given as goal

-- the marks of the sections so far
abbrev pub invariant-loop-number : goal.invariant-loop-number
invariant-loop-number l = l.told.items ≡ map (edges_by l.link l.emitted) (range_with_len 0 l.number)
