use Rattle.std.proofs.Common.{◌≡◌, map}
use Rattle.std.specs.List.{range_with_len}
use Rattle.lk_merge.proofs.Beginning.{empty_state}
use Rattle.lk_merge.proofs.merging.Merging.new.Given as goal

-- the buckets so far, each empty
abbrev pub invariant-loop-number : goal.invariant-loop-number
invariant-loop-number l = l.buckets.items ≡ map (empty_state l.section l.limit) (range_with_len 0 l.number)
