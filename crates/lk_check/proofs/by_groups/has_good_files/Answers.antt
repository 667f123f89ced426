use Rattle.std.proofs.Common.{ap, ◌∙◌}
use Rattle.lk_check.specs.ByGroups.{is_good_group}
use Rattle.lk_check.proofs.AllPass.{all_pass}
use Rattle.lk_check.proofs.by_groups.has_good_files.Goals as goal

pub returns : goal.returns
returns g c =
    let link = c.args.link.now in
    let chain = c.all.ensures in
    let slice = ap (λ it. it.slice.now) c.with_min_len.ensures.base ∙ c.par_iter.ensures ∙ c.as_slice.ensures in
    all_pass chain.0 link.groups (chain.1 ∙ slice) (is_good_group link) c.all.result chain.2
