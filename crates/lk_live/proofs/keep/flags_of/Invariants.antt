use Rattle.std.proofs.Common.{◌≡◌, map, take}
use Rattle.lk_reach.specs.Units.{flags_from}
use Rattle.lk_live.proofs.keep.flags_of.Given as goal

-- the flags of the words so far
abbrev pub invariant-loop-word : goal.invariant-loop-word
invariant-loop-word l = l.flags.items ≡ map flags_from (take l.word-index l.words)
