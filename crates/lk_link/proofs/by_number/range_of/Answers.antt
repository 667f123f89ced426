use Rattle.std.proofs.Common.{ltb, leb, rules}
use Rattle.std.proofs.lemmas.List.Sorted.{IsPartitionPoint-from_clause, IsPartitionedBy-ltb, IsPartitionedBy-leb}
use Rattle.lk_link.proofs.NumberedLemmas.{range_from}
use Rattle.lk_link.proofs.by_number.range_of.Goals as goal

pub returns : goal.returns
returns c =
    let xs = c.args.numbers.now in
    let n = c.args.number in
    range_from xs n c.partition_point-low.result c.partition_point-high.result c.partition_point-low.ensures.bound c.partition_point-high.ensures.bound
    (IsPartitionPoint-from_clause (λ y. ltb y n) xs c.partition_point-low.result c.partition_point-low.ensures.partitioned (IsPartitionedBy-ltb (λ y. y) xs n c.requires) (λ a r q k. search rules))
    (IsPartitionPoint-from_clause (λ y. leb y n) xs c.partition_point-high.result c.partition_point-high.ensures.partitioned (IsPartitionedBy-leb (λ y. y) xs n c.requires) (λ a r q k. search rules))
