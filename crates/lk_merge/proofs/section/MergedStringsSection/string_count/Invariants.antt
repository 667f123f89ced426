use Rattle.std.proofs.Common.{◌≡◌, ◌*◌, ◌^◌, ◌≤◌, length, sum_by, take}
use Rattle.lk_merge.specs.Buckets.{Bucket}
use Rattle.lk_merge.proofs.section.MergedStringsSection.string_count.Given as goal

-- the pieces of the buckets so far
abbrev pub invariant-loop-bucket : goal.invariant-loop-bucket
invariant-loop-bucket l =
    (l.count ≡ sum_by (λ (k : Bucket). length k.pieces) (take l.bucket-index l.bucket-items)) × (l.count ≤ l.bucket-index * 2 ^ 28)
