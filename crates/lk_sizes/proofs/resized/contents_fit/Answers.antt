use Rattle.std.proofs.Common.{ℕ, ◌<◌, ◌^◌, false, List, get_or, subst, below_more}
use Rattle.std.proofs.lemmas.List.{get_or_default}
use Rattle.lk_sizes.specs.declared.owners.PartContents.{PartContents}
use Rattle.lk_sizes.proofs.resized.contents_fit.Goals as goal

pub loop-part-preserved : goal.loop-part-preserved
loop-part-preserved c = λ k d below.
    let contents : List PartContents = c.args.contents.now in
    let n : ℕ = c.loop-part.part-index in
    let none : PartContents = record { bytes = 0; has_image = false; attrs = 0 } in
    let P : ℕ → Type 0 = λ j. (get_or contents j d).bytes < 2 ^ 64 in
    below_more P n (λ j before. c.loop-part.invariant j d before)
    (subst (λ (x : PartContents). x.bytes < 2 ^ 64) (get_or_default contents n none d c.loop-part-test.true) c.bytes_of-bytes.ensures.small) k below
