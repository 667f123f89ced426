use Rattle.std.proofs.Common.{◌≡◌, map}
use Rattle.std.specs.List.{range_with_len}
use Rattle.lk_sizes.specs.Tables.{behind_leading}
use Rattle.lk_sizes.proofs.addresses.behind_leading.Given as goal

-- the ends of what leads in the parts so far
abbrev pub invariant-loop-number : goal.invariant-loop-number
invariant-loop-number l = l.next.items ≡ map (behind_leading l.link l.merged_lens l.starts) (range_with_len 0 l.number)
