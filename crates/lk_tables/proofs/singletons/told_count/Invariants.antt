use Rattle.std.proofs.Common.{◌≡◌, ◌-◌, ◌^◌, min}
use Rattle.std.specs.List.{count_by, range_with_len}
use Rattle.lk_link.specs.Marks.{is_marked}
use Rattle.lk_tables.proofs.singletons.told_count.Given as goal

-- those so far
abbrev pub invariant-loop-number : goal.invariant-loop-number
invariant-loop-number l = l.count ≡ min (count_by (is_marked l.told) (range_with_len 0 l.number)) (2 ^ 32 - 1)
