use Rattle.std.proofs.Common.{◌≡◌, ◌*◌, ◌^◌, ◌≤◌, length, sum_by, take}
use Rattle.std.specs.List.{concat}
use Rattle.lk_merge.specs.Buckets.{Bucket}
use Rattle.lk_merge.proofs.section.MergedStringsSection.len.Given as goal

-- the bytes of the buckets so far
abbrev pub invariant-loop-bucket : goal.invariant-loop-bucket
invariant-loop-bucket l =
    (l.len ≡ sum_by (λ (k : Bucket). length (concat k.pieces)) (take l.bucket-index l.bucket-items)) × (l.len ≤ l.bucket-index * 2 ^ 28)
