use Rattle.std.proofs.Common.{◌≡◌, map, None}
use Rattle.std.specs.List.{All}
use Rattle.lk_merge.specs.declared.merging.BucketState.{BucketState}
use Rattle.lk_merge.proofs.merging.Merging.finish.Given as goal

-- the buckets so far, none of which has stopped
abbrev pub invariant-loop-state : goal.invariant-loop-state
invariant-loop-state l = (l.buckets.items ≡ map (λ s. s.bucket) l.yielded) × All (λ (s : BucketState). s.refusal ≡ None) l.yielded
