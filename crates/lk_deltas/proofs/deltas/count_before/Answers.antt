use Rattle.std.proofs.Common.{arith, ltb, rules, sym}
use Rattle.std.proofs.lemmas.List.Sorted.{IsPartitionPoint-from_clause, IsPartitionedBy-ltb}
use Rattle.std.proofs.lemmas.List.Sums.{prefix_len_is}
use Rattle.lk_deltas.specs.declared.deltas.Delta.{Delta}
use Rattle.lk_deltas.proofs.DeltaLemmas.{starts_rise}
use Rattle.lk_deltas.proofs.Rising.{keys_sorted}
use Rattle.lk_deltas.proofs.deltas.count_before.Goals as goal

pub returns-clause-count : goal.returns-clause-count
returns-clause-count c =
    let ds = c.args.deltas.now in
    let offset = c.args.offset in
    let n = c.partition_point.result in
    let none : Delta = record { range = (0, 0); before = 0 } in
    let point = IsPartitionPoint-from_clause (λ (d : Delta). ltb d.range.0 offset) ds n c.partition_point.ensures.partitioned
    (IsPartitionedBy-ltb (λ (d : Delta). d.range.0) ds offset (keys_sorted (λ (d : Delta). d.range.0) 0 ds (starts_rise 0 0 ds c.requires))) (λ a r q k. search rules) in
    sym (prefix_len_is (λ (d : Delta). ltb d.range.0 offset) ds n none c.partition_point.ensures.bound
    (λ k below. point.0 k none (omega arith) below) (λ within. point.1 n none (omega arith) within))
