use Rattle.std.proofs.Common.{◌≡◌, ◌+◌, ◌++◌}
use Rattle.lk_merge.specs.Hash.{fnv64}
use Rattle.lk_merge.specs.Image.{all_pieces}
use Rattle.lk_merge.specs.Places.{bucket_start}
use Rattle.lk_merge.proofs.AddressLemmas.{first_addresses}
use Rattle.lk_merge.proofs.addresses.push_addresses.Given as goal

-- the buckets so far have their addresses, and the next one's is at hand
abbrev pub invariant-loop-bucket : goal.invariant-loop-bucket
invariant-loop-bucket l = (l.addresses.items ≡ l.initial.addresses.items ++ first_addresses l.start l.section l.bucket)
    × (l.address ≡ l.start + bucket_start fnv64 (all_pieces l.section) l.bucket)
