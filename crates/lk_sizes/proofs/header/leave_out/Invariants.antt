use Rattle.std.proofs.Common.{◌≡◌, map}
use Rattle.std.specs.List.{range_with_len}
use Rattle.lk_sizes.proofs.Emitting.{left_by}
use Rattle.lk_sizes.proofs.header.leave_out.Given as goal

-- the marks of the sections so far
abbrev pub invariant-loop-number : goal.invariant-loop-number
invariant-loop-number l = l.left.items ≡ map (left_by l.plan l.marks) (range_with_len 0 l.number)
