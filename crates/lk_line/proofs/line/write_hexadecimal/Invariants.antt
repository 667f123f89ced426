use Rattle.std.proofs.Common.{◌≡◌, ◌+◌, ◌≤◌, ◌++◌, length, drop}
use Rattle.lk_line.specs.Hexadecimal.{hexadecimal}
use Rattle.lk_line.specs.declared.line.TheConstants.{ROOM}
use Rattle.lk_line.proofs.Digits.{in_front}
use Rattle.lk_line.proofs.line.write_hexadecimal.Given as goal

abbrev pub invariant-loop-left : goal.invariant-loop-left
invariant-loop-left l = (l.left ≤ 64) × (l.base + 64 ≡ l.end) × (length l.room ≡ ROOM)
    × (in_front l.left l.rest (drop (l.base + l.left) l.room) ≡ hexadecimal l.number ++ drop l.end l.fn.room)

abbrev pub decreases-loop-left : goal.decreases-loop-left
decreases-loop-left l = l.left
