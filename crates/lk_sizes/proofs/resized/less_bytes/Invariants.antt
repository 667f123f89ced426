use Rattle.std.proofs.Common.{◌≡◌, take}
use Rattle.lk_sizes.specs.Resized.{less_bytes}
use Rattle.lk_sizes.proofs.resized.less_bytes.Given as goal

-- the contents so far, less what is lost
abbrev pub invariant-loop-number : goal.invariant-loop-number
invariant-loop-number l = l.less.items ≡ less_bytes l.before l.after (take l.number l.contents)
