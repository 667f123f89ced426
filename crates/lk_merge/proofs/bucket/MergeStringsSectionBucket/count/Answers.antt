use Rattle.std.proofs.Common.{◌≡◌, ◌∙◌, length, sym, arith}
use Rattle.std.specs.Map.{keys_of}
use Rattle.std.proofs.lemmas.List.{length-map}
use Rattle.lk_merge.proofs.BucketLemmas.{few_strings}
use Rattle.lk_merge.proofs.bucket.MergeStringsSectionBucket.count.Goals as goal

pub returns-clause-few : goal.returns-clause-few
returns-clause-few c =
    let i = c.self.inside in
    let few = few_strings i.number i.limit i.next_offset i.strings.entries c.self.invariant in
    let same : c.len.result ≡ length (keys_of i.strings.entries) = c.len.ensures.len ∙ sym (length-map i.strings.entries (λ e. e.0)) in
    omega (arith, few, same)
