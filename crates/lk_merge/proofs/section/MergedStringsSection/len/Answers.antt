use Rattle.std.proofs.Common.{List, length, sum_by, ap, arith, ◌∙◌}
use Rattle.std.specs.List.{concat}
use Rattle.std.proofs.lemmas.List.{take_all}
use Rattle.lk_merge.specs.Buckets.{Bucket}
use Rattle.lk_merge.specs.Hash.{fnv64}
use Rattle.lk_merge.specs.Image.{all_pieces, image}
use Rattle.lk_merge.specs.Pieces.{MergeInput}
use Rattle.lk_merge.proofs.Counting.{few_buckets, kept_bytes}
use Rattle.lk_merge.proofs.section.MergedStringsSection.len.Goals as goal

pub overflow_add-len : goal.overflow_add-len
overflow_add-len c =
    let i = c.self.inside in
    let few = few_buckets i.inputs i.buckets.items i.string_offsets c.self.invariant in
    let same = ap (λ (ks : List Bucket). length ks) c.as_slice-bucket-items.ensures.value in
    omega (arith, few, same, c.loop-bucket.invariant.1, c.loop-bucket-test.true, c.len.ensures.small)

pub returns : goal.returns
returns c =
    let i = c.self.inside in
    c.loop-bucket.invariant.0
    ∙ ap (sum_by (λ (k : Bucket). length (concat k.pieces))) (take_all c.loop-bucket.bucket-index c.as_slice-bucket-items.result.now c.loop-bucket-test.false ∙ c.as_slice-bucket-items.ensures.value)
    ∙ kept_bytes i.inputs i.buckets.items i.string_offsets c.self.invariant
    ∙ ap (λ (xs : List MergeInput). length (image fnv64 (all_pieces xs))) c.self.view_is
