use Rattle.std.proofs.Common.{◌≡◌, map, take}
use Rattle.std.specs.List.{enumerate_from}
use Rattle.lk_ranks.specs.Ranks.{sort_key}
use Rattle.lk_ranks.proofs.ranks.keys_of.Given as goal

-- those of the numbers so far
abbrev pub invariant-loop-place : goal.invariant-loop-place
invariant-loop-place l = l.keys.items ≡ map (sort_key l.ranks) (enumerate_from 0 (take l.place l.numbers))
