use Rattle.std.proofs.Common.{◌≡◌, ◌++◌, drop, map}
use Rattle.lk_group_starts.specs.GroupStarts.{capped, taken_in}
use Rattle.lk_group_starts.proofs.group_starts.all_taken.Given as goal

-- those so far, and those of what is left, are all
abbrev pub invariant-loop-share : goal.invariant-loop-share
invariant-loop-share l = l.bytes.items ++ map (λ s. capped (taken_in l.table s)) (drop l.share-index l.shares) ≡ map (λ s. capped (taken_in l.table s)) l.shares
