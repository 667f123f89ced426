use Rattle.std.proofs.Common.{List, length, sum_by, ap, arith, ◌∙◌}
use Rattle.std.proofs.lemmas.List.{take_all}
use Rattle.lk_merge.specs.Buckets.{Bucket}
use Rattle.lk_merge.specs.Hash.{fnv64}
use Rattle.lk_merge.specs.Image.{all_pieces, image_pieces}
use Rattle.lk_merge.specs.Pieces.{MergeInput}
use Rattle.lk_merge.proofs.Counting.{few_buckets, kept_count}
use Rattle.lk_merge.proofs.section.MergedStringsSection.string_count.Goals as goal

pub overflow_add-count : goal.overflow_add-count
overflow_add-count c =
    let i = c.self.inside in
    let few = few_buckets i.inputs i.buckets.items i.string_offsets c.self.invariant in
    let same = ap (λ (ks : List Bucket). length ks) c.as_slice-bucket-items.ensures.value in
    omega (arith, few, same, c.loop-bucket.invariant.1, c.loop-bucket-test.true, c.count-count.ensures.few)

pub returns : goal.returns
returns c =
    let i = c.self.inside in
    c.loop-bucket.invariant.0
    ∙ ap (sum_by (λ (k : Bucket). length k.pieces)) (take_all c.loop-bucket.bucket-index c.as_slice-bucket-items.result.now c.loop-bucket-test.false ∙ c.as_slice-bucket-items.ensures.value)
    ∙ kept_count i.inputs i.buckets.items i.string_offsets c.self.invariant
    ∙ ap (λ (xs : List MergeInput). length (image_pieces fnv64 (all_pieces xs))) c.self.view_is
