use Rattle.std.proofs.Common.{◌≡◌, map}
use Rattle.std.specs.List.{range_with_len}
use Rattle.lk_sizes.proofs.Emitting.{kept_by}
use Rattle.lk_sizes.proofs.header.mark_kept.Given as goal

-- the marks of the sections so far
abbrev pub invariant-loop-number : goal.invariant-loop-number
invariant-loop-number l = l.kept.items ≡ map (kept_by l.plan l.live.kept l.by_symbols l.first_sizes) (range_with_len 0 l.number)
