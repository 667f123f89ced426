use Rattle.std.proofs.Common.{List, is_none, ap, ◌∙◌}
use Rattle.lk_link.specs.declared.file.InputFile.{InputFile}
use Rattle.lk_check.specs.Lengths.{long_list, sections_of}
use Rattle.lk_check.proofs.AllPass.{all_pass}
use Rattle.lk_check.proofs.LongLists.{none_of_groups}
use Rattle.lk_check.proofs.counts_by_groups.has_no_long_list.Goals as goal

pub returns : goal.returns
returns g c =
    let most = c.args.most in
    let list = c.args.list in
    let groups : List (List InputFile) = c.args.groups.now in
    let chain = c.all.ensures in
    let slice = ap (λ it. it.slice.now) c.with_min_len.ensures.base ∙ c.par_iter.ensures in
    all_pass chain.0 groups (chain.1 ∙ slice) (λ (files : List InputFile). is_none (long_list most list (sections_of files))) c.all.result chain.2
    ∙ none_of_groups most list groups
