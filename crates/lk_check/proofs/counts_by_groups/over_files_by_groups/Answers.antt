use Rattle.std.proofs.Common.{◌≡◌, ℕ, ◌-◌, ◌^◌, List, min, sum, sum_by, ap, ◌∙◌}
use Rattle.rayon.proofs.Reducing.{Reduces-elim}
use Rattle.rayon.proofs.ToStd.{slice-AllZip}
use Rattle.lk_link.specs.declared.file.InputFile.{InputFile}
use Rattle.lk_check.proofs.CappedSums.{capped, joined, one_more}
use Rattle.lk_check.proofs.counts_by_groups.over_files_by_groups.Goals as goal

abbrev most : ℕ
most = 2 ^ 64 - 1

abbrev IsCappedSum : List ℕ → ℕ → Type 0
IsCappedSum xs r = r ≡ min (sum xs) most

pub returns : goal.returns
returns g c =
    let number : InputFile → ℕ = g.N.FileNumber.number in
    let groups : List (List InputFile) = c.args.groups.now in
    let done = c.reduce.ensures in
    let chain = done.1 in
    let slice = ap (λ it. it.base.slice.now) c.map.ensures.base ∙ ap (λ it. it.slice.now) c.with_min_len.ensures.base ∙ c.par_iter.ensures in
    let sums = slice-AllZip chain.0 groups (chain.1 ∙ slice) (λ (files : List InputFile) y. y ≡ min (sum_by number files) most) done.0 chain.2 in
    Reduces-elim _ _ IsCappedSum (λ e zero. zero) (one_more most) (joined most) done.0 c.reduce.result done.2
    ∙ capped (λ (files : List InputFile). sum_by number files) most groups done.0 sums
